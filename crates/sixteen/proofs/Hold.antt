-- The checker computes every row.
use lib.Ieee.{of_int, to_signed, is_nan, lt, eq, le, add, sub, mul, div, neg, to_bits, of_bits}
use Rattle.laws.specs.Turns.{turns}
use Rattle.laws.specs.Every.{every, any_below}
use Rattle.laws.specs.Front.{list}
use Rattle.laws.specs.Values.{magnitude_of}
use Rattle.laws.specs.Lists.{passing, fold}
use Rattle.laws.specs.Leader.{without, keys_met, last_largest}
use Rattle.laws.specs.Order.{total_order}
use Rattle.laws.specs.Convert.{converted}
use Rattle.laws.specs.Pick.{maximum_number, minimum_number, clamped_to}
use Rattle.numbers.specs.Sum.{sum_of}
use Rattle.floors.specs.Floor.{floored}
use Rattle.chroma.specs.Shift.{class_of, blended, read_at, shifted}
use Rattle.roots.specs.Root.{whole_root, doubled_root, root_of_units, root_of}
use Rattle.keys.specs.Numbers.{tonics}
use Rattle.scores.specs.Profiles.{profiles, profile_at}
use Rattle.correlations.specs.Correlation.{sums_of, quotient_of, correlation_of, held_up, held_up_at}
use Rattle.scores.specs.Scores.{score_of, scores_of}
use Rattle.scores.specs.Shape.{shapeless_at, shapeless_of}
use Rattle.key_choice.specs.Places.{placed, candidate_at, places_of}
use Rattle.key_choice.specs.Classify.{louder, chosen_key, confidence_of, classified_of}
use Rattle.laws.specs.First.{first}
use Rattle.timeline.specs.Segments.{seconds, short, joined}
use Rattle.majorities.specs.Majority.{votes_of, majority_of}
use Rattle.splits.specs.Splits.{splits}
use Rattle.groups.specs.Groups.{border_after, inner_borders, group_of, segments_between, groups_of}
use Rattle.shortening.specs.Shorten.{first_short, keeper, join_at, unsettled, join_short, shorten, shortened_of}
use Rattle.alternates.specs.Alternate.{held_seconds, lasting, total_of, lasts_in, seconds_of, lasting_keys, rival_of, coverage_of, lacks, alternate_of}
use Rattle.bits.specs.Bits.{bits_of, number_of, bytes_cut}
use Rattle.card_form.specs.Form.{segments_bits, card_bytes}
use Rattle.card.specs.Rules.{header_broken, segment_broken, card_broken, layout_for}
use Rattle.card_form.specs.Rows.{unequal}
use Rattle.card_judge.specs.Analysed.{layout_of}
use Rattle.answers.specs.Answer.{keyless}
use Rattle.sixteen.specs.Rows.{row_a, row_b, row_c, row_d, row_e, row_f, row_g, row_h, row_i, row_j, row_k, row_l, row_m, row_n, row_o, row_p, rows, RowsHold}

pub rows-hold : RowsHold
unfolding rows row_a row_b row_c row_d row_e row_f row_g row_h row_i row_j row_k row_l row_m row_n row_o row_p first passing fold without keys_met last_largest total_order converted minimum_number seconds short joined votes_of majority_of splits border_after inner_borders group_of segments_between groups_of first_short keeper join_at unsettled join_short shorten shortened_of held_seconds lasting total_of lasts_in seconds_of lasting_keys rival_of coverage_of lacks alternate_of le bits_of number_of bytes_cut segments_bits card_bytes header_broken segment_broken card_broken layout_for unequal layout_of keyless class_of blended read_at shifted floored of_int to_signed every is_nan lt eq add sub mul div neg to_bits of_bits turns list magnitude_of maximum_number clamped_to sum_of whole_root doubled_root root_of_units root_of tonics profiles profile_at sums_of quotient_of correlation_of held_up held_up_at any_below shapeless_at shapeless_of score_of scores_of placed candidate_at places_of louder chosen_key confidence_of classified_of
rows-hold = tt
