mod MissedLemmas
