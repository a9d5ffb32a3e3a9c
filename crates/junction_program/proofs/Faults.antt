-- A run ends with an answer, or by a fault of the outside, and where its files are held that fault is counted.
use Rattle.std.proofs.Common.{ℕ, List, [], ◌∷◌, ◌++◌, ◌≡◌, ◌<◌, ◌⊎◌, inl, inr, refl, subst, arith}
use Rattle.std.proofs.lemmas.Bool.{cases_lt}
use Rattle.sig_base.specs.FaultCount.{Rose}
use Rattle.std.specs.Prelude.{Option, None, Some, IfSome}
use Rattle.sig_base.specs.Shelf.{Holdings}
use Rattle.junction_program.specs.Runs.{Run, told, ShelfRose, SinkRose, CountsShelfFault}
use Rattle.junction_program.specs.Outcomes.{Answer, IsAnswered, LacksFetched, ExceedsFetched, ShelfFault, LengthFault, PushesPart, Outcome, OrPushFault, OrOutsideFault}
use Rattle.junction_program.specs.Headline.{Tells}
use Rattle.junction_program.specs.declared.status.Status.{Status}
use Rattle.junction_program.specs.declared.status.Status.TheVariants.{Done, Infeasible, Stopped, Refuted, BadWords, BadJunction, BadCertificate, ShelfFailed, SinkFailed, Memory, TooLong}
use Rattle.junction_program.proofs.Endings.{Puts}

abbrev pub IsFault : Status → Type 0
IsFault status = (status ≡ ShelfFailed) ⊎ ((status ≡ SinkFailed) ⊎ ((status ≡ Memory) ⊎ (status ≡ TooLong)))

pub answered_or_fault : (status : Status) → IsAnswered status ⊎ IsFault status
answered_or_fault Done = inl tt
answered_or_fault Infeasible = inl tt
answered_or_fault Stopped = inl tt
answered_or_fault Refuted = inl tt
answered_or_fault BadWords = inl tt
answered_or_fault BadJunction = inl tt
answered_or_fault BadCertificate = inl tt
answered_or_fault ShelfFailed = inr (inl refl)
answered_or_fault SinkFailed = inr (inr (inl refl))
answered_or_fault Memory = inr (inr (inr (inl refl)))
answered_or_fault TooLong = inr (inr (inr (inr refl)))

-- each name that is fetched is held, and short enough
pub record AreHeld (fetches : List ℕ → ℕ → Type 0) (run : Run) : Type 0 where
  pub held : ¬ LacksFetched fetches (told run)
  pub short : ¬ LengthFault fetches run

-- where the shelf tells that no name is too long, none is refused for that
pub none_too_long : (fetches : List ℕ → ℕ → Type 0) (run : Run) → Tells (told run) → ¬ ExceedsFetched fetches (told run) → ¬ LengthFault fetches run
none_too_long fetches run tells short fault = told_cause (told run) tells fault.cause
  where
    told_cause : (shelf : Option Holdings) → Tells shelf → IfSome shelf (λ _. ExceedsFetched fetches (told run)) → ⊥
    told_cause None own cause = own
    told_cause (Some m) own cause = short cause

-- where each name that is fetched is held, the shelf fails only where its count rises
pub shelf_cause : (fetches : List ℕ → ℕ → Type 0) (puts : Puts → Type 0) (run : Run) → ¬ LacksFetched fetches (told run) → ShelfFault fetches puts run → ShelfRose run
shelf_cause fetches puts run held fault = elim fault [
  | inl f ↦ elim f.cause [ inl r ↦ r | inr lacks ↦ absurd (held (f.name, f.limit, f.asked, lacks)) ]
  | inr p ↦ p.rose
]

counted_rose : (before now : ℕ) → before < now → Rose before now
counted_rose before now counted = omega (arith, counted)

-- where each name that is fetched is held and short enough, a fault is a count that rose, or want of memory
module _ (answers : Answer → Type 0) (fetches : List ℕ → ℕ → Type 0) (puts : Puts → Type 0) (run : Run) (o : Outcome answers fetches puts run)
    (files : AreHeld fetches run) where
  -- behind an answer no fault of the shelf is counted
  pub uncounted : IsAnswered run.status → ¬ CountsShelfFault run
  uncounted answered counted = elim (o.shelf_told counted).1 [
    | inl e ↦ subst IsAnswered e.0 answered
    | inr y ↦ elim y [ inl e ↦ subst IsAnswered e.0 answered | inr e ↦ subst IsAnswered e.0 answered ]
  ]

  -- where the fetches fail only so, and each answer has the status, it comes unless a fetch fails
  module _ (wanted : Status) (cause : Type 0) (fault_cause : ShelfFault fetches puts run → cause) where
    abbrev Either : Type 0
    Either = (OrPushFault wanted run.status × ¬ CountsShelfFault run) ⊎ (OrPushFault ShelfFailed run.status × ShelfRose run × cause)

    cut : (run.status ≡ SinkFailed) ⊎ (run.status ≡ Memory) → Either
    cut h = elim (cases_lt run.before.shelf.faults run.after.shelf.faults) [
      | inl counted ↦ inr (inr h, counted_rose run.before.shelf.faults run.after.shelf.faults counted, fault_cause (o.shelf_told counted).0)
      | inr not ↦ inl (inr h, λ counted. omega (arith, not, counted))
    ]

    pub answered_or_caused : IsAnswered run.status ⊎ Either
    answered_or_caused = elim (answered_or_fault run.status) [
      | inl h ↦ inl h
      | inr f ↦ inr (elim f [
        | inl e ↦ inr (inl e, shelf_cause fetches puts run files.held (o.shelf_failed e).0, fault_cause (o.shelf_failed e).0)
        | inr g ↦ elim g [ inl e ↦ cut (inl e) | inr h ↦ elim h [ inl e ↦ cut (inr e) | inr e ↦ absurd (files.short (o.too_long e).0) ] ]
      ])
    ]

    pub caused_always : (IsAnswered run.status → run.status ≡ wanted) → Either
    caused_always own = elim answered_or_caused [ inl h ↦ inl (inl (own h), uncounted h) | inr f ↦ f ]

  pub answered_or_outside : (wanted : Status) → IsAnswered run.status ⊎ OrOutsideFault wanted run
  answered_or_outside wanted = elim (answered_or_caused wanted (Unit {0}) (λ f. tt)) [
    | inl h ↦ inl h
    | inr f ↦ inr (elim f [ inl x ↦ inl x | inr x ↦ inr (x.0, x.1) ])
  ]

  -- where each answer has the status, it comes unless the outside fails
  pub told_always : (wanted : Status) → (IsAnswered run.status → run.status ≡ wanted) → OrOutsideFault wanted run
  told_always wanted own = elim (answered_or_outside wanted) [ inl h ↦ inl (inl (own h), uncounted h) | inr f ↦ f ]

  pub no_fault : ¬ ShelfRose run → ¬ SinkRose run → IsFault run.status → run.status ≡ Memory
  no_fault shelf sink f = elim f [
    | inl e ↦ absurd (shelf (shelf_cause fetches puts run files.held (o.shelf_failed e).0))
    | inr g ↦ elim g [ inl e ↦ absurd (sink (o.sink_failed e).0) | inr h ↦ elim h [ inl e ↦ e | inr e ↦ absurd (files.short (o.too_long e).0) ] ]
  ]

  -- where the sink fails and the shelf doesn't, an answer was put
  pub answer_put : ¬ ShelfRose run → run.status ≡ SinkFailed → PushesPart answers run
  answer_put shelf e = elim (o.sink_failed e).1 [
    | inl part ↦ part
    | inr q ↦ elim q [ inl s ↦ absurd (shelf (shelf_cause fetches puts run files.held s.0)) | inr l ↦ absurd (files.short l.0) ]
  ]

-- a list that ends with a put isn't empty
pub some_put : (made : Puts) (put : List ℕ × List ℕ) → made ++ put ∷ [] ≡ [] → ⊥
some_put [] put e = cc
some_put (x ∷ made) put e = cc
