-- The line of a run that is refused.
use Rattle.std.specs.Prelude.{codes, ℕ, List, ◌++◌, decimal}
use Rattle.plan_certificate.specs.FaultWords.{fault_number, fault_word}
use Rattle.report_text.specs.declared.refusal.Refusal.{Refusal}
use Rattle.report_text.specs.declared.refusal.Refusal.TheVariants as refusal

abbrev pub refusal_line : Refusal → List ℕ
refusal_line refusal.BadWords = codes "bad words\n"
refusal_line (refusal.BadCertificate fault) =
    codes "bad certificate " ++ (decimal (fault_number fault) ++ (codes " " ++ (fault_word fault ++ codes "\n")))
refusal_line refusal.ShelfFailed = codes "shelf failed\n"
refusal_line refusal.TooLong = codes "too long\n"
