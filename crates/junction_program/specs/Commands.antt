-- What each command answers, which names it fetches, and what it puts.
use Rattle.std.specs.Prelude.{ℕ, List, [], ◌∷◌, Option, None, Some, ◌≡◌, ◌≢◌, ◌↔◌, ◌⊎◌}
use Rattle.sig_base.specs.Fraction.{Fraction}
use Rattle.sig_base.specs.Ratio.{fraction_of}
use Rattle.sig_base.specs.Shelf.{Holdings}
use Rattle.sig_base.specs.declared.ratio.Ratio.{Ratio}
use Rattle.junction_model.specs.Junction.{JunctionView}
use Rattle.junction_files.specs.Printing.{file_members}
use Rattle.junction_files.specs.Reads.{IsDocument, Spells, IsRefusal}
use Rattle.junction_files.specs.Line.{fault_line_of}
use Rattle.junction_files.specs.declared.faults.Kind.{Kind}
use Rattle.junction_files.specs.declared.faults.Place.{Place}
use Rattle.junction_files.specs.declared.faults.JunctionFault.TheVariants.{Refused}
use Rattle.plan_model.specs.Fits.{Fits, group_count}
use Rattle.plan_model.specs.FirstFault.{IsFirstFault}
use Rattle.plan_model.specs.SignalPlan.{PlanView}
use Rattle.plan_model.specs.declared.fault.PlanFault.{PlanFault}
use Rattle.plan_certificate.specs.Certificate.{CertificateView}
use Rattle.plan_certificate.specs.Reads as spelling
use Rattle.plan_certificate.specs.Text.{text_of}
use Rattle.plan_certificate.specs.declared.claim.Claim.{Claim}
use Rattle.plan_certificate.specs.declared.claim.Claim.TheVariants as claim
use Rattle.plan_certificate.specs.declared.fault.CertificateFault.{CertificateFault}
use Rattle.plan_certificate.specs.declared.fault.CertificateFault.TheVariants as certificate_fault
use Rattle.certificate_checker.specs.CertificateRules.{BreaksNoRule}
use Rattle.certificate_checker.specs.Proves.{ProvesClaim, IsTrueClaim, IsTruePart}
use Rattle.certificate_checker.specs.Verdict.{IsVerdict}
use Rattle.certificate_checker.specs.declared.verdict.Verdict.{Verdict}
use Rattle.certificate_checker.specs.declared.verdict.Verdict.TheVariants.{Proved, Partial, Broken}
use Rattle.certificate_checker.specs.declared.rule.Rule.{Rule}
use Rattle.certificate_checker.specs.declared.rule.Rule.TheVariants as rule
use Rattle.aspect_player.specs.Lines.{played_text}
use Rattle.plan_design.specs.Design.{IsDesign}
use Rattle.plan_design.specs.declared.objective.Objective.{Objective}
use Rattle.plan_design.specs.declared.objective.Objective.TheVariants as objective
use Rattle.report_text.specs.Report.{IsReport}
use Rattle.report_text.specs.Summary.{IsSummary}
use Rattle.sample_junctions.specs.Sample.{IsSample}
use Rattle.command_words.specs.Options.{default_least, default_budget}
use Rattle.report_text.specs.Verdict.{verdict_line}
use Rattle.report_text.specs.Refusal.{refusal_line}
use Rattle.report_text.specs.declared.refusal.Refusal.TheVariants as refusal
use Rattle.command_words.specs.Words.{CommandView, Capacity, Cycle, Check, Play, Sample}
use Rattle.junction_program.specs.Outcomes.{Answer}
use Rattle.junction_program.specs.Steps.{IsFetched, only_text, after_put, FetchesNothing}
use Rattle.junction_program.specs.declared.status.Status.{Status}
use Rattle.junction_program.specs.declared.status.Status.TheVariants.{Done, Infeasible, Stopped, Refuted, BadWords, BadJunction, BadCertificate}

-- the most bytes of a junction file, and of a certificate
abbrev pub junction_limit : ℕ
junction_limit = 1048576

abbrev pub certificate_limit : ℕ
certificate_limit = 33554432

-- the bytes under the name are no junction, and the line tells their first fault
pub record RefusesJunction (shelf : Option Holdings) (name : List ℕ) (answer : Answer) : Type 0 where
  pub bytes : List ℕ
  pub fetched : IsFetched shelf name junction_limit bytes
  pub kind : Kind
  pub place : Place
  pub refused : IsRefusal bytes (Refused kind place)
  pub told : answer ≡ only_text BadJunction (fault_line_of kind place)

-- the bytes under the name spell the junction
pub record Accepts (shelf : Option Holdings) (name : List ℕ) (junction : JunctionView) : Type 0 where
  pub bytes : List ℕ
  pub fetched : IsFetched shelf name junction_limit bytes
  pub spelled : Spells bytes junction

-- the status of a design by its claim
abbrev pub status_of_claim : Claim → Status
status_of_claim claim.Capacity = Done
status_of_claim claim.Cycle = Done
status_of_claim claim.Infeasible = Infeasible
status_of_claim claim.Stopped = Stopped

-- the certificate of a design of the junction for this least and this budget; its text reads back as the same certificate
pub record IsAskedDesign (junction : JunctionView) (objective : Objective) (least : Fraction) (budget : ℕ) (c : CertificateView) :
    Type 0 where
  pub asked : Ratio
  pub least_is : fraction_of asked ≡ least
  pub design : IsDesign junction objective asked budget c
  pub read_back : spelling.Spells (group_count junction) (text_of c) c

-- the certificate of a design is put, and its report pushed
pub record Designs (shelf : Option Holdings) (junction_name certificate_name : List ℕ) (objective : Objective)
    (least : Fraction) (budget : ℕ) (answer : Answer) : Type 0 where
  pub junction : JunctionView
  pub accepted : Accepts shelf junction_name junction
  pub certificate : CertificateView
  pub made : IsAskedDesign junction objective least budget certificate
  pub status : answer.status ≡ status_of_claim certificate.claim
  pub report : IsReport junction certificate answer.text
  pub puts : answer.puts ≡ (certificate_name, text_of certificate) ∷ []

-- the bytes under the certificate's name spell none for this junction, and the line tells their first fault
pub record RefusesCertificate (shelf : Option Holdings) (junction_name certificate_name : List ℕ) (answer : Answer) : Type 0 where
  pub junction : JunctionView
  pub accepted : Accepts shelf junction_name junction
  pub bytes : List ℕ
  pub fetched : IsFetched shelf certificate_name certificate_limit bytes
  pub fault : CertificateFault
  pub not_memory : fault ≢ certificate_fault.Memory
  pub refused : spelling.IsRefusal (group_count junction) bytes fault
  pub told : answer ≡ only_text BadCertificate (refusal_line (refusal.BadCertificate fault))

-- the bytes under the name spell the certificate, for this junction
pub record Finds (shelf : Option Holdings) (name : List ℕ) (junction : JunctionView) (c : CertificateView) : Type 0 where
  pub bytes : List ℕ
  pub fetched : IsFetched shelf name certificate_limit bytes
  pub spelled : spelling.Spells (group_count junction) bytes c

abbrev pub status_of_verdict : Verdict → Status
status_of_verdict Proved = Done
status_of_verdict Partial = Stopped
status_of_verdict (Broken rule cycle place) = Refuted

-- the certificate is judged by its junction, and the line of the verdict pushed
pub record Judges (junction : JunctionView) (c : CertificateView) (answer : Answer) : Type 0 where
  pub given : Verdict
  pub is : IsVerdict junction c given
  pub proved : (given ≡ Proved) ↔ ProvesClaim junction c
  pub partial : (given ≡ Partial) ↔ ((c.claim ≡ claim.Stopped) × BreaksNoRule junction c)
  pub holds : given ≡ Proved → IsTrueClaim junction c
  pub part : given ≡ Partial → IsTruePart junction c
  pub told : answer ≡ only_text (status_of_verdict given) (verdict_line junction c.claim given)

-- the plan fits, and its rows are pushed
pub record PlaysPlan (seconds : ℕ) (junction : JunctionView) (c : CertificateView) (answer : Answer) : Type 0 where
  pub plan : PlanView
  pub of_certificate : c.plan ≡ Some plan
  pub fits : Fits junction plan
  pub told : answer ≡ only_text Done (played_text junction plan seconds)

-- the line of a broken rule of plans
abbrev pub plan_refused : JunctionView → CertificateView → Rule → Answer
plan_refused junction c rule = only_text Refuted (verdict_line junction c.claim (Broken rule 0 0))

-- there is no plan, or it doesn't fit, and the line tells its first fault
abbrev pub RefusesPlan : JunctionView → CertificateView → Answer → Type 0
RefusesPlan junction c answer = ((c.plan ≡ None) × (answer ≡ plan_refused junction c rule.Plan))
    ⊎ ((plan : PlanView) × (fault : PlanFault) × (c.plan ≡ Some plan) × IsFirstFault junction plan fault
    × (answer ≡ plan_refused junction c (rule.Fit fault)))

-- the plan of the certificate is played for so many seconds
abbrev pub Plays : ℕ → JunctionView → CertificateView → Answer → Type 0
Plays seconds junction c answer = PlaysPlan seconds junction c answer ⊎ RefusesPlan junction c answer

-- the answer is one of this kind on the junction and the certificate that lie under the names
pub record IsOnFiles (kind : JunctionView → CertificateView → Answer → Type 0) (shelf : Option Holdings)
    (junction_name certificate_name : List ℕ) (answer : Answer) : Type 0 where
  pub junction : JunctionView
  pub accepted : Accepts shelf junction_name junction
  pub certificate : CertificateView
  pub found : Finds shelf certificate_name junction certificate
  pub own : kind junction certificate answer

-- what a design may answer
abbrev pub DesignAnswers : Option Holdings → List ℕ → List ℕ → Objective → Fraction → ℕ → Answer → Type 0
DesignAnswers shelf junction certificate objective least budget answer =
    RefusesJunction shelf junction answer ⊎ Designs shelf junction certificate objective least budget answer

-- one of two files is refused
abbrev pub RefusesFiles : Option Holdings → List ℕ → List ℕ → Answer → Type 0
RefusesFiles shelf junction certificate answer = RefusesJunction shelf junction answer ⊎ RefusesCertificate shelf junction certificate answer

-- what a command on two files may answer
abbrev pub FileAnswers : (JunctionView → CertificateView → Answer → Type 0) → Option Holdings → List ℕ → List ℕ → Answer → Type 0
FileAnswers kind shelf junction certificate answer =
    RefusesFiles shelf junction certificate answer ⊎ IsOnFiles kind shelf junction certificate answer

-- a design fetches the junction
abbrev pub FetchesJunction : List ℕ → List ℕ → ℕ → Type 0
FetchesJunction junction name limit = (name ≡ junction) × (limit ≡ junction_limit)

-- a command on both files fetches the junction, and beside one that is accepted the certificate
abbrev pub FetchesBoth : Option Holdings → List ℕ → List ℕ → List ℕ → ℕ → Type 0
FetchesBoth shelf junction certificate name limit =
    FetchesJunction junction name limit
    ⊎ ((name ≡ certificate) × (limit ≡ certificate_limit) × ((own : JunctionView) × Accepts shelf junction own))

-- a design puts nothing, or its certificate
abbrev pub PutsDesign : Option Holdings → List ℕ → List ℕ → Objective → Fraction → ℕ → List (List ℕ × List ℕ) → Type 0
PutsDesign shelf junction certificate objective least budget made =
    (made ≡ []) ⊎ ((answer : Answer) × Designs shelf junction certificate objective least budget answer × (made ≡ answer.puts))

abbrev pub PutsNothing : List (List ℕ × List ℕ) → Type 0
PutsNothing made = made ≡ []

-- the certificate of a sample is put, and its summary pushed
pub record CertifiesSample (number : ℕ) (junction : JunctionView) (certificate_name : List ℕ) (answer : Answer) : Type 0 where
  pub certificate : CertificateView
  pub made : IsAskedDesign junction objective.Capacity default_least default_budget certificate
  pub status : answer.status ≡ status_of_claim certificate.claim
  pub summary : IsSummary number junction certificate answer.text
  pub puts : answer.puts ≡ (certificate_name, text_of certificate) ∷ []

abbrev pub PutsCertificate : ℕ → JunctionView → List ℕ → List (List ℕ × List ℕ) → Type 0
PutsCertificate number junction certificate_name made =
    (made ≡ []) ⊎ ((answer : Answer) × CertifiesSample number junction certificate_name answer × (made ≡ answer.puts))

-- the bytes are the printed file of the sample junction of the number, and spell it
pub record SpellsSample (number : ℕ) (junction : JunctionView) (bytes : List ℕ) : Type 0 where
  pub sample : IsSample number junction
  pub spelled : Spells bytes junction
  pub printed : IsDocument bytes (file_members junction)

-- the file of the sample is put, then its certificate, and its summary pushed
pub record Samples (number : ℕ) (junction_name certificate_name : List ℕ) (answer : Answer) : Type 0 where
  pub junction : JunctionView
  pub bytes : List ℕ
  pub file : SpellsSample number junction bytes
  pub certified : Answer
  pub certifies : CertifiesSample number junction certificate_name certified
  pub told : answer ≡ after_put junction_name bytes certified

-- nothing is put, or the file of the sample, and then its certificate
pub record PutsFile (number : ℕ) (junction_name certificate_name : List ℕ) (made : List (List ℕ × List ℕ)) : Type 0 where
  pub junction : JunctionView
  pub bytes : List ℕ
  pub file : SpellsSample number junction bytes
  pub more : List (List ℕ × List ℕ)
  pub certificate : PutsCertificate number junction certificate_name more
  pub told : made ≡ (junction_name, bytes) ∷ more

abbrev pub PutsSample : ℕ → List ℕ → List ℕ → List (List ℕ × List ℕ) → Type 0
PutsSample number junction_name certificate_name made = (made ≡ []) ⊎ PutsFile number junction_name certificate_name made

-- words that spell no command are told so, and nothing is fetched or put
abbrev pub answers_of : Option CommandView → Option Holdings → Answer → Type 0
answers_of None shelf answer = answer ≡ only_text BadWords (refusal_line refusal.BadWords)
answers_of (Some (Capacity junction certificate least budget)) shelf answer = DesignAnswers shelf junction certificate objective.Capacity least budget answer
answers_of (Some (Cycle junction certificate least budget)) shelf answer = DesignAnswers shelf junction certificate objective.Cycle least budget answer
answers_of (Some (Check junction certificate)) shelf answer = FileAnswers Judges shelf junction certificate answer
answers_of (Some (Play junction certificate seconds)) shelf answer = FileAnswers (Plays seconds) shelf junction certificate answer
answers_of (Some (Sample number junction certificate)) shelf answer = Samples number junction certificate answer

abbrev pub fetches_of : Option CommandView → Option Holdings → List ℕ → ℕ → Type 0
fetches_of None shelf name limit = FetchesNothing name limit
fetches_of (Some (Capacity junction certificate least budget)) shelf name limit = FetchesJunction junction name limit
fetches_of (Some (Cycle junction certificate least budget)) shelf name limit = FetchesJunction junction name limit
fetches_of (Some (Check junction certificate)) shelf name limit = FetchesBoth shelf junction certificate name limit
fetches_of (Some (Play junction certificate seconds)) shelf name limit = FetchesBoth shelf junction certificate name limit
fetches_of (Some (Sample number junction certificate)) shelf name limit = FetchesNothing name limit

abbrev pub puts_of : Option CommandView → Option Holdings → List (List ℕ × List ℕ) → Type 0
puts_of None shelf made = PutsNothing made
puts_of (Some (Capacity junction certificate least budget)) shelf made = PutsDesign shelf junction certificate objective.Capacity least budget made
puts_of (Some (Cycle junction certificate least budget)) shelf made = PutsDesign shelf junction certificate objective.Cycle least budget made
puts_of (Some (Check junction certificate)) shelf made = PutsNothing made
puts_of (Some (Play junction certificate seconds)) shelf made = PutsNothing made
puts_of (Some (Sample number junction certificate)) shelf made = PutsSample number junction certificate made
