-- Why a lane that isn't saturated has a delay.
use Rattle.std.proofs.Common.{ℕ, ◌-◌, ◌*◌, ◌<◌, ◌≤◌, inl, inr, arith}
use Rattle.std.proofs.Math.Nat.{mul-pos}
use Rattle.std.proofs.lemmas.Bool.{cases_lt}
use Rattle.std.proofs.lemmas.Nat.{mul-le}
use Rattle.delay_report.specs.DelayLaw.{DelayLaw}

some_product : (a b : ℕ) → 1 ≤ a → 1 ≤ b → 1 ≤ a * b
some_product a b p q = let some : 0 < a * b = mul-pos p q in omega arith

-- as much would arrive as can leave
less_arrives : (q s e c : ℕ) → q * c < s * e → e ≤ c → q < s
less_arrives q s e c less within = elim (cases_lt q s) [
  | inl below ↦ below
  | inr above ↦ let more : s * e ≤ q * c = mul-le s e q c above within in absurd (omega arith)
]

pub delay_law : DelayLaw
delay_law lane effective cycle below =
    let less = less_arrives lane.arrival lane.saturation effective cycle below.less below.within in
    let spare : 1 ≤ lane.saturation - lane.arrival = omega arith in
    let leaving : 1 ≤ lane.saturation * effective = omega (arith, below.less) in
    let left : 1 ≤ lane.saturation * effective - lane.arrival * cycle = omega (arith, below.less) in
    let uniform = some_product (20 * cycle) (lane.saturation - lane.arrival) (omega (arith, below.allowed.shortest)) spare in
    let random = some_product (lane.saturation * effective) (lane.saturation * effective - lane.arrival * cycle) leaving left in
    (uniform, random, some_product _ _ uniform random)
