use Rattle.ctr_bits.specs.MaskBits.{mask_twice, narrower_mask_counts, field_of_masked, field_in_mask, field_off_mask, put_leaves_mask, put_stays_within, merged_on_mask, merged_off_mask, merged_stays_within, merged_fits, field_of_merged_in, field_of_merged_off}
use Rattle.ctr_bits.proofs.laws.mask_laws.Goals as goal

pub returns-clause-mask_twice : goal.returns-clause-mask_twice
returns-clause-mask_twice c = mask_twice

pub returns-clause-narrower_mask_counts : goal.returns-clause-narrower_mask_counts
returns-clause-narrower_mask_counts c = narrower_mask_counts

pub returns-clause-field_of_masked : goal.returns-clause-field_of_masked
returns-clause-field_of_masked c = field_of_masked

pub returns-clause-field_in_mask : goal.returns-clause-field_in_mask
returns-clause-field_in_mask c = field_in_mask

pub returns-clause-field_off_mask : goal.returns-clause-field_off_mask
returns-clause-field_off_mask c = field_off_mask

pub returns-clause-put_leaves_mask : goal.returns-clause-put_leaves_mask
returns-clause-put_leaves_mask c = put_leaves_mask

pub returns-clause-put_stays_within : goal.returns-clause-put_stays_within
returns-clause-put_stays_within c = put_stays_within

pub returns-clause-merged_on_mask : goal.returns-clause-merged_on_mask
returns-clause-merged_on_mask c = merged_on_mask

pub returns-clause-merged_off_mask : goal.returns-clause-merged_off_mask
returns-clause-merged_off_mask c = merged_off_mask

pub returns-clause-merged_stays_within : goal.returns-clause-merged_stays_within
returns-clause-merged_stays_within c = merged_stays_within

pub returns-clause-merged_fits : goal.returns-clause-merged_fits
returns-clause-merged_fits c = merged_fits

pub returns-clause-field_of_merged_in : goal.returns-clause-field_of_merged_in
returns-clause-field_of_merged_in c = field_of_merged_in

pub returns-clause-field_of_merged_off : goal.returns-clause-field_of_merged_off
returns-clause-field_of_merged_off c = field_of_merged_off
