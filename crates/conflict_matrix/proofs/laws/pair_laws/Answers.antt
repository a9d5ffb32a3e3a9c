use Rattle.conflict_matrix.proofs.PairNumbers.{pair_law, pair_number_law, rising_pairs_law, pair_count_law}
use Rattle.conflict_matrix.proofs.FreePairs.{pair_sum_law}
use Rattle.conflict_matrix.proofs.laws.pair_laws.Goals as goal

pub returns-clause-pair : goal.returns-clause-pair
returns-clause-pair c = pair_law

pub returns-clause-number : goal.returns-clause-number
returns-clause-number c = pair_number_law

pub returns-clause-rising : goal.returns-clause-rising
returns-clause-rising c = rising_pairs_law

pub returns-clause-few : goal.returns-clause-few
returns-clause-few c = pair_count_law

pub returns-clause-sum : goal.returns-clause-sum
returns-clause-sum c = pair_sum_law
