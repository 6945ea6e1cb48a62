use Rattle.ctr_csrs.specs.declared.depth.Depth.TheVariants.{D16}
use Rattle.ctr_buffer.specs.Stack.{empty}
use Rattle.ctr_buffer.specs.HistoryLaws.{begins, depth_follows, pointer_follows, all_stay, empty_is}
use Rattle.ctr_buffer.proofs.Counts.{pointer_sum}
use Rattle.ctr_buffer.specs.FactLemmas.{buffers_stay}
use Rattle.ctr_buffer.proofs.history.history_laws.Goals as goal

pub returns-clause-depth_is_the_last : goal.returns-clause-depth_is_the_last
returns-clause-depth_is_the_last c = λ history. depth_follows (empty D16) history

pub returns-clause-pointer_is_counted : goal.returns-clause-pointer_is_counted
returns-clause-pointer_is_counted c = λ history. pointer_follows (empty D16) history (empty_is D16)

pub returns-clause-shape : goal.returns-clause-shape
returns-clause-shape c = λ history. all_stay (empty D16) history (empty_is D16)

pub returns-clause-begins : goal.returns-clause-begins
returns-clause-begins c = begins

pub returns-clause-pointer_sum : goal.returns-clause-pointer_sum
returns-clause-pointer_sum c = pointer_sum

pub returns-clause-buffers_stay : goal.returns-clause-buffers_stay
returns-clause-buffers_stay c = buffers_stay
