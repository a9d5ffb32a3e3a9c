-- Records are judged in one way.
use Rattle.std.proofs.Common.{ℕ, List, [], ◌∷◌, ◌++◌, length, Ok, Err, ◌≡◌, ◌≢◌, refl, sym, ap, ◌∙◌, subst}
use Rattle.junction_model.specs.Junction.{JunctionView}
use Rattle.aspect_player.specs.declared.aspect.Aspect.{Aspect}
use Rattle.aspect_player.specs.Safe.{IsSafe}
use Rattle.log_monitor.specs.declared.fault.LogFault.{LogFault}
use Rattle.log_monitor.specs.declared.fault.LogFault.TheVariants as fault
use Rattle.log_monitor.specs.declared.verdict.LogVerdict.{LogVerdict}
use Rattle.log_monitor.specs.declared.verdict.LogVerdict.TheVariants as verdict
use Rattle.log_monitor.specs.Judgement.{IsVerdict, IsJudged}
use Rattle.log_monitor.specs.Log.{Fields, IsLogOf, IsFirstFault}
use Rattle.log_monitor.specs.LogLaws.{OneVerdictLaw}
use Rattle.log_monitor.specs.Violations.{IsFirstViolation, in_seconds}
use Rattle.log_monitor.proofs.Logs.{one_log_law, no_log_law, unsafe_law}
use Rattle.log_monitor.proofs.OneFault.{one_fault_law}
use Rattle.log_monitor.proofs.OneViolation.{one_violation_law}

no_end : (before after : List (List Aspect)) (row : List Aspect) → [] ≡ before ++ row ∷ after → ⊥
no_end [] after row e = cc
no_end (first ∷ before) after row e = cc

module _ (junction : JunctionView) (read : List Fields) where
  one_verdict : (given other : LogVerdict) → IsVerdict junction read given → IsVerdict junction read other → given ≡ other
  one_verdict (verdict.Safe count) (verdict.Safe more) a b =
      let same = one_log_law junction read a.first b.first a.rows b.rows a.log b.log in
      ap verdict.Safe (a.counted ∙ ap length same.0 ∙ sym b.counted)
  one_verdict (verdict.Safe count) (verdict.Unsafe told) a b =
      let same = one_log_law junction read a.first b.first a.rows b.rows a.log b.log in
      absurd (unsafe_law junction b.rows b.found b.violation (subst (IsSafe junction) same.0 a.safe))
  one_verdict (verdict.Unsafe told) (verdict.Safe count) a b =
      let same = one_log_law junction read a.first b.first a.rows b.rows a.log b.log in
      absurd (unsafe_law junction a.rows a.found a.violation (subst (IsSafe junction) (sym same.0) b.safe))
  one_verdict (verdict.Unsafe told) (verdict.Unsafe more) a b =
      let same = one_log_law junction read a.first b.first a.rows b.rows a.log b.log in
      let some : a.rows ≢ [] = λ none. no_end a.violation.before a.violation.after a.violation.row (sym none ∙ a.violation.parts) in
      let found : a.found ≡ b.found =
      one_violation_law junction b.rows a.found b.found (subst (λ rows. IsFirstViolation junction rows a.found) same.0 a.violation) b.violation in
      ap verdict.Unsafe (a.told_is ∙ ap (λ first. in_seconds first a.found) (same.1 some) ∙ ap (in_seconds b.first) found ∙ sym b.told_is)

  log_of : (given : LogVerdict) → IsVerdict junction read given →
      (first : ℕ) × (rows : List (List Aspect)) × IsLogOf junction read first rows
  log_of (verdict.Safe count) a = (a.first, a.rows, a.log)
  log_of (verdict.Unsafe told) a = (a.first, a.rows, a.log)

  fault_of : (found : LogFault) → found ≢ fault.Memory → IsJudged junction read (Err found) → IsFirstFault junction read found
  fault_of fault.Header some a = a
  fault_of (fault.Record number) some a = a
  fault_of (fault.Second number) some a = a
  fault_of (fault.Aspect number) some a = a
  fault_of fault.Memory some a = absurd (some refl)

  not_both : (given : LogVerdict) (found : LogFault) → IsVerdict junction read given → found ≢ fault.Memory →
      IsJudged junction read (Err found) → ⊥
  not_both given found a some b = let log = log_of given a in no_log_law junction read found log.0 log.1 (fault_of found some b) log.2

pub one_verdict_law : OneVerdictLaw
one_verdict_law junction read (Ok given) (Ok other) some more a b = ap Ok (one_verdict junction read given other a b)
one_verdict_law junction read (Ok given) (Err found) some more a b = absurd (not_both junction read given found a (λ e. more (ap Err e)) b)
one_verdict_law junction read (Err found) (Ok given) some more a b = absurd (not_both junction read given found b (λ e. some (ap Err e)) a)
one_verdict_law junction read (Err found) (Err other) some more a b =
    ap Err (one_fault_law junction read found other (fault_of junction read found (λ e. some (ap Err e)) a) (fault_of junction read other (λ e. more (ap Err e)) b))
