use Rattle.ctr_bits.specs.FieldLaws.{get_after_put, put_leaves_others, put_of_get, last_put_counts, put_fits}
use Rattle.ctr_bits.proofs.laws.field_laws.Goals as goal

pub returns-clause-get_after_put : goal.returns-clause-get_after_put
returns-clause-get_after_put c = get_after_put

pub returns-clause-put_leaves_others : goal.returns-clause-put_leaves_others
returns-clause-put_leaves_others c = put_leaves_others

pub returns-clause-put_of_get : goal.returns-clause-put_of_get
returns-clause-put_of_get c = put_of_get

pub returns-clause-last_put_counts : goal.returns-clause-last_put_counts
returns-clause-last_put_counts c = last_put_counts

pub returns-clause-put_fits : goal.returns-clause-put_fits
returns-clause-put_fits c = put_fits
