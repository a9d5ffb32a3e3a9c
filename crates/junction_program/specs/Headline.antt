-- What the statuses of a run mean for whoever reads its answer.
use Rattle.std.specs.Prelude.{ℕ, List, [], ◌∷◌, Option, None, Some, ◌≡◌, ◌≢◌, ◌<◌, ◌≤◌, ◌⊎◌, ⊤, IsSomeAnd}
use Rattle.sig_base.specs.Fraction.{Fraction}
use Rattle.sig_base.specs.Shelf.{Holdings, Puts}
use Rattle.junction_model.specs.Covers.{cover_of}
use Rattle.junction_model.specs.Junction.{JunctionView}
use Rattle.junction_files.specs.Reads.{Spells}
use Rattle.plan_model.specs.Claims.{IsInfeasible}
use Rattle.plan_model.specs.Fits.{Fits, group_count}
use Rattle.plan_model.specs.SignalPlan.{PlanView}
use Rattle.aspect_player.specs.Lines.{played_text}
use Rattle.aspect_player.specs.Safe.{IsSafe}
use Rattle.aspect_player.specs.Timetable.{timetable}
use Rattle.plan_certificate.specs.Certificate.{CertificateView, node_count}
use Rattle.plan_certificate.specs.Reads as spelling
use Rattle.plan_certificate.specs.Text.{text_of}
use Rattle.plan_certificate.specs.declared.claim.Claim.{Claim}
use Rattle.plan_certificate.specs.declared.claim.Claim.TheVariants as claim
use Rattle.certificate_checker.specs.CertificateRules.{BreaksRule, BreaksNoRule}
use Rattle.certificate_checker.specs.Proves.{ProvesClaim, IsTrueClaim, IsTruePart}
use Rattle.certificate_checker.specs.Verdict.{IsVerdict}
use Rattle.certificate_checker.specs.declared.rule.Rule.{Rule}
use Rattle.certificate_checker.specs.declared.verdict.Verdict.{Verdict}
use Rattle.certificate_checker.specs.declared.verdict.Verdict.TheVariants.{Proved, Partial, Broken}
use Rattle.plan_design.specs.Design.{IsTrueStop, claim_of}
use Rattle.plan_design.specs.declared.objective.Objective.{Objective}
use Rattle.report_text.specs.Report.{IsReport}
use Rattle.report_text.specs.Summary.{IsSummary}
use Rattle.sample_junctions.specs.Sample.{IsSample}
use Rattle.command_words.specs.Options.{default_least, default_budget}
use Rattle.report_text.specs.Verdict.{verdict_line}
use Rattle.command_words.specs.Words.{CommandView, Capacity, Cycle, Check, Play, Sample}
use Rattle.plan_design.specs.declared.objective.Objective.TheVariants as objective
use Rattle.junction_program.specs.Runs.{Run, told, ShelfRose, SinkRose, Printed, put_all}
use Rattle.junction_program.specs.Outcomes.{Answer, Gives, OrOutsideFault, OrFetchFault}
use Rattle.junction_program.specs.Steps.{IsFetched}
use Rattle.junction_program.specs.Commands.{RefusesJunction, Accepts, RefusesCertificate, Finds, IsAskedDesign, IsOnFiles, RefusesPlan, SpellsSample, FetchesJunction, FetchesBoth, junction_limit, certificate_limit}
use Rattle.junction_program.specs.declared.status.Status.TheVariants.{Done, Infeasible, Stopped, Refuted, BadJunction, BadCertificate, SinkFailed, Memory}

abbrev pub Tells : Option Holdings → Type 0
Tells None = ⊥
Tells (Some m) = ⊤

-- the shelf tells that the bytes under the name spell the junction
pub record HoldsJunction (shelf : Option Holdings) (name : List ℕ) (junction : JunctionView) : Type 0 where
  pub tells : Tells shelf
  pub accepted : Accepts shelf name junction

-- the shelf tells that the bytes under the name spell no junction
pub record HoldsBadJunction (shelf : Option Holdings) (name : List ℕ) : Type 0 where
  pub tells : Tells shelf
  pub bytes : List ℕ
  pub fetched : IsFetched shelf name junction_limit bytes
  pub none : (junction : JunctionView) → ¬ Spells bytes junction

-- the shelf tells that under one name lies the junction, and under the other the certificate for it
pub record HoldsBoth (shelf : Option Holdings) (junction_name certificate_name : List ℕ) (junction : JunctionView) (c : CertificateView) : Type 0 where
  pub held : HoldsJunction shelf junction_name junction
  pub found : Finds shelf certificate_name junction c

-- the shelf tells that under one name lies the junction, and under the other bytes that spell no certificate for it
pub record HoldsBadCertificate (shelf : Option Holdings) (junction_name certificate_name : List ℕ) (junction : JunctionView) : Type 0 where
  pub held : HoldsJunction shelf junction_name junction
  pub bytes : List ℕ
  pub fetched : IsFetched shelf certificate_name certificate_limit bytes
  pub none : (c : CertificateView) → ¬ spelling.Spells (group_count junction) bytes c

-- the run ends with an answer of this kind, which was put and pushed whole
abbrev pub Ends : (Answer → Type 0) → Run → Type 0
Ends answers run = (answer : Answer) × answers answer × Gives answer run

-- ---- files that are refused

pub record IsRefusedByCause (junction_name : List ℕ) (run : Run) : Type 0 where
  -- the bytes under the name are refused, and the line tells their first fault
  pub bad_junction : run.status ≡ BadJunction → Ends (RefusesJunction (told run) junction_name) run
  -- where they spell no junction, this is told, unless their fetch fails
  pub bad_junction_always : HoldsBadJunction (told run) junction_name → OrFetchFault BadJunction (FetchesJunction junction_name) run

pub record AreRefusedByCause (junction_name certificate_name : List ℕ) (run : Run) : Type 0 where
  pub junction : IsRefusedByCause junction_name run
  -- the bytes under the certificate's name spell none for the junction, and the line tells their first fault
  pub bad_certificate : run.status ≡ BadCertificate →
      Ends (RefusesCertificate (told run) junction_name certificate_name) run
  -- where they spell none, this is told, unless the fetch of one of the two files fails
  pub bad_certificate_always : (junction : JunctionView) → HoldsBadCertificate (told run) junction_name certificate_name junction →
      OrFetchFault BadCertificate (FetchesBoth (told run) junction_name certificate_name) run

-- ---- designs

-- the report of the certificate is pushed
pub record Reports (junction : JunctionView) (c : CertificateView) (run : Run) : Type 0 where
  pub report : List ℕ
  pub is_report : IsReport junction c report
  pub printed : Printed run report

module _ (own : Objective) (junction_name certificate_name : List ℕ) (least : Fraction) (budget : ℕ) (run : Run) where
  -- the text of the certificate of a design of the junction lies under its name
  pub record LeavesDesign (junction : JunctionView) : Type 0 where
    pub certificate : CertificateView
    pub made : IsAskedDesign junction own least budget certificate
    pub put : Puts (told run) run.after.shelf.holds certificate_name (text_of certificate)

  -- a certificate of this claim is left, with no more visited nodes than the budget: it proves the claim, and the claim is true
  -- of all plans of the junction
  pub record ShowsClaim (claimed : Claim) : Type 0 where
    pub junction : JunctionView
    pub accepted : Accepts (told run) junction_name junction
    pub leaves : LeavesDesign junction
    pub claim_is : leaves.certificate.claim ≡ claimed
    pub within : node_count leaves.certificate ≤ budget
    pub proves : ProvesClaim junction leaves.certificate
    pub holds : IsTrueClaim junction leaves.certificate
    pub verdict : IsVerdict junction leaves.certificate Proved
    pub reports : Reports junction leaves.certificate run

  -- a certificate of a stopped search is left: the budget is spent, and it doesn't cover the junction; what its trees show is
  -- true of all plans of the junction
  pub record ShowsStop : Type 0 where
    pub junction : JunctionView
    pub accepted : Accepts (told run) junction_name junction
    pub leaves : LeavesDesign junction
    pub stop : IsTrueStop junction leaves.made.asked budget leaves.certificate
    pub part : IsTruePart junction leaves.certificate
    pub uncovered : budget < cover_of junction
    pub verdict : IsVerdict junction leaves.certificate Partial
    pub reports : Reports junction leaves.certificate run

  -- what the statuses of a design mean
  pub record IsDesignRun : Type 0 where
    -- the plan is the best of all plans of the junction
    pub done : run.status ≡ Done → ShowsClaim (claim_of own)
    -- no plan of the junction meets the least
    pub infeasible : run.status ≡ Infeasible → ShowsClaim claim.Infeasible
    pub stopped : run.status ≡ Stopped → ShowsStop
    -- where no plan meets the least, this is told, unless the search is stopped or the outside fails
    pub infeasible_always : (junction : JunctionView) → HoldsJunction (told run) junction_name junction → IsInfeasible junction least →
        (run.status ≡ Infeasible) ⊎ OrOutsideFault Stopped run
    -- a budget that covers the junction is never spent
    pub covered : (junction : JunctionView) → HoldsJunction (told run) junction_name junction → cover_of junction ≤ budget → run.status ≢ Stopped
    -- where the sink fails and the shelf doesn't, the certificate was put
    pub sink_failed : (junction : JunctionView) → HoldsJunction (told run) junction_name junction → ¬ ShelfRose run →
        run.status ≡ SinkFailed → LeavesDesign junction
    pub refused : IsRefusedByCause junction_name run
    -- a junction that is held and accepted is answered, where no count of faults rises
    pub completes : (junction : JunctionView) → HoldsJunction (told run) junction_name junction → ¬ ShelfRose run → ¬ SinkRose run →
        (run.status ≡ Done) ⊎ ((run.status ≡ Infeasible) ⊎ ((run.status ≡ Stopped) ⊎ (run.status ≡ Memory)))

-- ---- checks

module _ (junction_name certificate_name : List ℕ) (run : Run) where
  -- the junction and the certificate that were fetched, and the line of the verdict that was pushed
  pub record ShowsVerdict (given : Verdict) : Type 0 where
    pub junction : JunctionView
    pub accepted : Accepts (told run) junction_name junction
    pub certificate : CertificateView
    pub found : Finds (told run) certificate_name junction certificate
    pub is : IsVerdict junction certificate given
    pub printed : Printed run (verdict_line junction certificate.claim given)

  -- the checker's yes: the certificate proves its claim, which is true of all plans of the junction, whoever wrote it
  pub record ShowsProved : Type 0 where
    pub verdict : ShowsVerdict Proved
    pub proves : ProvesClaim verdict.junction verdict.certificate
    pub holds : IsTrueClaim verdict.junction verdict.certificate

  -- a stopped search: no rule is broken, and what its trees show is true of all plans of the junction
  pub record ShowsPartial : Type 0 where
    pub verdict : ShowsVerdict Partial
    pub claim : verdict.certificate.claim ≡ claim.Stopped
    pub rules : BreaksNoRule verdict.junction verdict.certificate
    pub part : IsTruePart verdict.junction verdict.certificate

  -- the first broken rule
  abbrev pub ShowsBroken : Type 0
  ShowsBroken = (rule : Rule) × (cycle : ℕ) × (place : ℕ) × ShowsVerdict (Broken rule cycle place)

  -- what the statuses of a check mean
  pub record IsCheckRun : Type 0 where
    pub done : run.status ≡ Done → ShowsProved
    pub stopped : run.status ≡ Stopped → ShowsPartial
    pub refuted : run.status ≡ Refuted → ShowsBroken
    -- each of them comes where its cause stands, unless the outside fails
    pub done_always : (junction : JunctionView) (c : CertificateView) → HoldsBoth (told run) junction_name certificate_name junction c →
        ProvesClaim junction c → OrOutsideFault Done run
    pub stopped_always : (junction : JunctionView) (c : CertificateView) → HoldsBoth (told run) junction_name certificate_name junction c →
        c.claim ≡ claim.Stopped → BreaksNoRule junction c → OrOutsideFault Stopped run
    pub refuted_always : (junction : JunctionView) (c : CertificateView) (rule : Rule) (cycle place : ℕ) →
        HoldsBoth (told run) junction_name certificate_name junction c → BreaksRule junction c rule cycle place → OrOutsideFault Refuted run
    pub refused : AreRefusedByCause junction_name certificate_name run
    -- nothing is put
    pub same : run.after.shelf.holds ≡ told run
    -- files that are held and accepted are judged, where no count of faults rises
    pub completes : (junction : JunctionView) (c : CertificateView) → HoldsBoth (told run) junction_name certificate_name junction c →
        ¬ ShelfRose run → ¬ SinkRose run →
        (run.status ≡ Done) ⊎ ((run.status ≡ Stopped) ⊎ ((run.status ≡ Refuted) ⊎ (run.status ≡ Memory)))

-- ---- plays

module _ (junction_name certificate_name : List ℕ) (seconds : ℕ) (run : Run) where
  -- the plan of the certificate fits, and its rows were pushed; they are safe
  pub record ShowsPlay : Type 0 where
    pub junction : JunctionView
    pub accepted : Accepts (told run) junction_name junction
    pub certificate : CertificateView
    pub found : Finds (told run) certificate_name junction certificate
    pub plan : PlanView
    pub of_certificate : certificate.plan ≡ Some plan
    pub fits : Fits junction plan
    pub printed : Printed run (played_text junction plan seconds)
    pub safe : IsSafe junction (timetable junction plan seconds)

  -- what the statuses of a play mean
  pub record IsPlayRun : Type 0 where
    pub done : run.status ≡ Done → ShowsPlay
    -- the plan is missing or doesn't fit, and the line tells which
    pub refuted : run.status ≡ Refuted → Ends (IsOnFiles RefusesPlan (told run) junction_name certificate_name) run
    -- each comes where its cause stands, unless the outside fails
    pub done_always : (junction : JunctionView) (c : CertificateView) (plan : PlanView) → HoldsBoth (told run) junction_name certificate_name junction c →
        c.plan ≡ Some plan → Fits junction plan → OrOutsideFault Done run
    pub refuted_always : (junction : JunctionView) (c : CertificateView) → HoldsBoth (told run) junction_name certificate_name junction c →
        ¬ IsSomeAnd c.plan (Fits junction) → OrOutsideFault Refuted run
    pub refused : AreRefusedByCause junction_name certificate_name run
    -- nothing is put
    pub same : run.after.shelf.holds ≡ told run
    -- files that are held and accepted are answered, where no count of faults rises
    pub completes : (junction : JunctionView) (c : CertificateView) → HoldsBoth (told run) junction_name certificate_name junction c →
        ¬ ShelfRose run → ¬ SinkRose run →
        (run.status ≡ Done) ⊎ ((run.status ≡ Refuted) ⊎ (run.status ≡ Memory))

-- ---- samples

-- the summary of the certificate is pushed
pub record SumsUp (number : ℕ) (junction : JunctionView) (c : CertificateView) (run : Run) : Type 0 where
  pub summary : List ℕ
  pub is_summary : IsSummary number junction c summary
  pub printed : Printed run summary

module _ (number : ℕ) (junction_name certificate_name : List ℕ) (run : Run) where
  -- the file of the sample junction was put, and then the certificate of a design of it
  pub record LeavesSample : Type 0 where
    pub junction : JunctionView
    pub bytes : List ℕ
    pub file : SpellsSample number junction bytes
    pub certificate : CertificateView
    pub made : IsAskedDesign junction objective.Capacity default_least default_budget certificate
    pub put : run.after.shelf.holds ≡ put_all (told run) ((junction_name, bytes) ∷ ((certificate_name, text_of certificate) ∷ []))

  -- both are left; the certificate has no more visited nodes than the budget, and proves this claim, which is true of all plans
  -- of the sample
  pub record ShowsSampleClaim (claimed : Claim) : Type 0 where
    pub leaves : LeavesSample
    pub claim_is : leaves.certificate.claim ≡ claimed
    pub within : node_count leaves.certificate ≤ default_budget
    pub proves : ProvesClaim leaves.junction leaves.certificate
    pub holds : IsTrueClaim leaves.junction leaves.certificate
    pub verdict : IsVerdict leaves.junction leaves.certificate Proved
    pub sums_up : SumsUp number leaves.junction leaves.certificate run

  -- both are left; the search was stopped, and its budget doesn't cover the sample; what its trees show is true of all plans of
  -- the sample
  pub record ShowsSampleStop : Type 0 where
    pub leaves : LeavesSample
    pub stop : IsTrueStop leaves.junction leaves.made.asked default_budget leaves.certificate
    pub part : IsTruePart leaves.junction leaves.certificate
    pub uncovered : default_budget < cover_of leaves.junction
    pub verdict : IsVerdict leaves.junction leaves.certificate Partial
    pub sums_up : SumsUp number leaves.junction leaves.certificate run

  -- what the statuses of a sample mean
  pub record IsSampleRun : Type 0 where
    pub done : run.status ≡ Done → ShowsSampleClaim claim.Capacity
    pub infeasible : run.status ≡ Infeasible → ShowsSampleClaim claim.Infeasible
    pub stopped : run.status ≡ Stopped → ShowsSampleStop
    -- where no plan meets the least, this is told, unless the search is stopped or the outside fails
    pub infeasible_always : (junction : JunctionView) → IsSample number junction → IsInfeasible junction default_least →
        (run.status ≡ Infeasible) ⊎ OrOutsideFault Stopped run
    -- a budget that covers the sample is never spent
    pub covered : (junction : JunctionView) → IsSample number junction → cover_of junction ≤ default_budget → run.status ≢ Stopped
    -- where the sink fails and the shelf doesn't, both files were put
    pub sink_failed : ¬ ShelfRose run → run.status ≡ SinkFailed → LeavesSample
    -- it is answered, where no count of faults rises
    pub completes : ¬ ShelfRose run → ¬ SinkRose run →
        (run.status ≡ Done) ⊎ ((run.status ≡ Infeasible) ⊎ ((run.status ≡ Stopped) ⊎ (run.status ≡ Memory)))

-- ---- commands

-- the statuses of the command that the words spell mean what they should
abbrev pub IsCommandRun : Option CommandView → Run → Type 0
IsCommandRun (Some (Capacity junction certificate least budget)) run = IsDesignRun objective.Capacity junction certificate least budget run
IsCommandRun (Some (Cycle junction certificate least budget)) run = IsDesignRun objective.Cycle junction certificate least budget run
IsCommandRun (Some (Check junction certificate)) run = IsCheckRun junction certificate run
IsCommandRun (Some (Play junction certificate seconds)) run = IsPlayRun junction certificate seconds run
IsCommandRun (Some (Sample number junction certificate)) run = IsSampleRun number junction certificate run
IsCommandRun None run = ⊤
