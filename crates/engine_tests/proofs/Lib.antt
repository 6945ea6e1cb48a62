mod PlayedLemmas
