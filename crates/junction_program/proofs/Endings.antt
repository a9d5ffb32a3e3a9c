-- How the steps of a run end it.
use Rattle.std.proofs.Common.{ℕ, List, [], ◌∷◌, ◌++◌, take, length, ◌≡◌, ◌<◌, ◌⊎◌, inl, inr, refl, sym, ap, ◌∙◌, arith, subst}
use Rattle.std.specs.Prelude.{Option, None, Some, IfSome, IsSomeAnd}
use Rattle.std.specs.Io.KnownBytes.{Appends, Keeps}
use Rattle.std.proofs.lemmas.List.{append-nil}
use Rattle.sig_base.specs.FaultCount.{Rose}
use Rattle.sig_base.specs.Shelf.{Holdings, held, Lacks, Exceeds, Puts as SetsName}
use Rattle.report_text.specs.Refusal.{refusal_line}
use Rattle.report_text.specs.declared.refusal.Refusal.TheVariants as refusal
use Rattle.junction_program.specs.Runs.{ShelfView, SinkView, Outside, Run, told, ShelfRose, put_all}
use Rattle.junction_program.specs.Outcomes.{Answer, IsAnswered, ExceedsFetched, HasPut, ShelfFault, LengthFault, PushesPart, OrPushFault, TellsFault, Outcome}
use Rattle.junction_program.specs.Steps.{IsUnchanged, IsPushed, IsPushedInParts, IsFetched, IsPut, FetchesNothing, PutsOne, only_text, after_put}
use Rattle.junction_program.specs.declared.status.Status.{Status}
use Rattle.junction_program.specs.declared.status.Status.TheVariants.{ShelfFailed, SinkFailed, Memory, TooLong}

abbrev pub Puts : Type 0
Puts = List (List ℕ × List ℕ)

pub put_nothing : (shelf : Option Holdings) → shelf ≡ put_all shelf []
put_nothing None = refl
put_nothing (Some m) = refl

keeps_appends : (a b : Option (List ℕ)) → Keeps a b → Appends a b []
keeps_appends None b h = tt
keeps_appends (Some xs) None h = h
keeps_appends (Some xs) (Some ys) h = h ∙ sym (append-nil xs)

pub itself_appends : (a : Option (List ℕ)) → Appends a a []
itself_appends None = tt
itself_appends (Some xs) = sym (append-nil xs)

abbrev pub run_of : ShelfView → SinkView → ShelfView → SinkView → Status → Run
run_of s0 k0 s1 k1 status = record { before = record { shelf = s0; sink = k0 }; after = record { shelf = s1; sink = k1 }; status = status }

-- a status that is answered is none of the faults
not_shelf : (status : Status) → IsAnswered status → status ≡ ShelfFailed → ⊥
not_shelf status h e = let bad : IsAnswered ShelfFailed = subst IsAnswered e h in bad

not_sink : (status : Status) → IsAnswered status → status ≡ SinkFailed → ⊥
not_sink status h e = let bad : IsAnswered SinkFailed = subst IsAnswered e h in bad

not_memory : (status : Status) → IsAnswered status → status ≡ Memory → ⊥
not_memory status h e = let bad : IsAnswered Memory = subst IsAnswered e h in bad

not_long : (status : Status) → IsAnswered status → status ≡ TooLong → ⊥
not_long status h e = let bad : IsAnswered TooLong = subst IsAnswered e h in bad

-- a push of the text in one piece is one in parts
pub in_parts : (text : List ℕ) (status : Status) (k0 k1 : SinkView) (given : Status) → IsPushed text status k0 k1 given → IsPushedInParts text status k0 k1 given
in_parts text status k0 k1 given pushed = record {
  ends = pushed.ends;
  whole = pushed.whole;
  uncounted = pushed.uncounted;
  fault = pushed.fault;
  part = λ h. elim h [ inl e ↦ pushed.part e | inr e ↦ (0, keeps_appends k0.written k1.written (pushed.nothing e)) ];
}

module _ (answers : Answer → Type 0) (fetches : List ℕ → ℕ → Type 0) (puts : Puts → Type 0) where
  -- the text of an answer that puts nothing is pushed
  pub answer_pushed : (s : ShelfView) (k0 k1 : SinkView) (given status : Status) (text : List ℕ) → answers (only_text status text) → puts [] → IsAnswered status → ¬ ExceedsFetched fetches s.holds →
      IsPushedInParts text status k0 k1 given → Outcome answers fetches puts (run_of s k0 s k1 given)
  answer_pushed s k0 k1 given status text meant made ends short pushed = record {
    answered = λ h. elim pushed.ends [
      | inl e ↦ (only_text status text, meant, record { status = e; put = put_nothing s.holds; pushed = pushed.whole e })
      | inr f ↦ elim f [ inl e ↦ absurd (not_sink given h e) | inr e ↦ absurd (not_memory given h e) ]
    ];
    shelf_failed = λ h. elim pushed.ends [ inl e ↦ absurd (not_shelf status ends (sym e ∙ h)) | inr f ↦ elim f [ inl e ↦ (let bad : ShelfFailed ≡ SinkFailed = sym h ∙ e in cc) | inr e ↦ (let bad : ShelfFailed ≡ Memory = sym h ∙ e in cc) ] ];
    too_long = λ h. elim pushed.ends [ inl e ↦ absurd (not_long status ends (sym e ∙ h)) | inr f ↦ elim f [ inl e ↦ (let bad : TooLong ≡ SinkFailed = sym h ∙ e in cc) | inr e ↦ (let bad : TooLong ≡ Memory = sym h ∙ e in cc) ] ];
    too_long_always = λ exceeds rose. absurd (short exceeds);
    sink_failed = λ h. (pushed.fault h, inl (part_pushed (pushed.part (inl h))));
    shelf_told = λ counted. absurd (omega (arith, counted));
    length_told = λ counted. absurd (omega (arith, counted));
    sink_told = λ counted. elim pushed.ends [ inl e ↦ absurd (omega (arith, counted, pushed.uncounted e)) | inr f ↦ f ];
    memory = λ h. (record { made = []; meant = made; put = put_nothing s.holds }, inr (part_pushed (pushed.part (inr h))));
  }
    where
      part_pushed : (n : ℕ) × Appends k0.written k1.written (take n text) → PushesPart answers (run_of s k0 s k1 given)
      part_pushed part = record { answer = only_text status text; meant = meant; put = put_nothing s.holds; bytes = part.0; pushed = part.1 }

  module _ (s0 s1 : ShelfView) (k0 k1 : SinkView) (given : Status) where
    tells : (line : List ℕ) (status : Status) → IsPushed line status k0 k1 given → TellsFault status line (run_of s0 k0 s1 k1 given)
    tells line status pushed = elim pushed.ends [
      | inl e ↦ inl (e, pushed.whole e)
      | inr f ↦ inr (elim f [ inl e ↦ inl (e, pushed.part e) | inr e ↦ inr (e, keeps_appends k0.written k1.written (pushed.nothing e)) ])
    ]

    -- the line of a fault of the shelf is pushed
    pub failure_pushed : ShelfFault fetches puts (run_of s0 k0 s1 k1 given) → HasPut puts (run_of s0 k0 s1 k1 given) → s1.refusals ≡ s0.refusals →
        (ExceedsFetched fetches s0.holds → Rose s0.faults s1.faults) → IsPushed (refusal_line refusal.ShelfFailed) ShelfFailed k0 k1 given →
        Outcome answers fetches puts (run_of s0 k0 s1 k1 given)
    failure_pushed fault kept same rises pushed = record {
      answered = λ h. elim pushed.ends [ inl e ↦ absurd (not_shelf given h e) | inr f ↦ elim f [ inl e ↦ absurd (not_sink given h e) | inr e ↦ absurd (not_memory given h e) ] ];
      shelf_failed = λ h. (fault, pushed.whole h);
      too_long = λ h. elim pushed.ends [ inl e ↦ (let bad : TooLong ≡ ShelfFailed = sym h ∙ e in cc) | inr f ↦ elim f [ inl e ↦ (let bad : TooLong ≡ SinkFailed = sym h ∙ e in cc) | inr e ↦ (let bad : TooLong ≡ Memory = sym h ∙ e in cc) ] ];
      too_long_always = λ exceeds rose. absurd (rose (rises exceeds));
      sink_failed = λ h. (pushed.fault h, inr (inl (fault, pushed.part h)));
      shelf_told = λ counted. (fault, tells (refusal_line refusal.ShelfFailed) ShelfFailed pushed);
      length_told = λ counted. absurd (omega (arith, counted, same));
      sink_told = λ counted. elim pushed.ends [ inl e ↦ absurd (omega (arith, counted, pushed.uncounted e)) | inr f ↦ f ];
      memory = λ h. (kept, inl (keeps_appends k0.written k1.written (pushed.nothing h)));
    }

    -- the line of a refusal for length is pushed
    pub length_pushed : LengthFault fetches (run_of s0 k0 s1 k1 given) → puts [] → s1.faults ≡ s0.faults → IsPushed (refusal_line refusal.TooLong) TooLong k0 k1 given →
        Outcome answers fetches puts (run_of s0 k0 s1 k1 given)
    length_pushed fault none same pushed = record {
      answered = λ h. elim pushed.ends [ inl e ↦ absurd (not_long given h e) | inr f ↦ elim f [ inl e ↦ absurd (not_sink given h e) | inr e ↦ absurd (not_memory given h e) ] ];
      shelf_failed = λ h. elim pushed.ends [ inl e ↦ (let bad : ShelfFailed ≡ TooLong = sym h ∙ e in cc) | inr f ↦ elim f [ inl e ↦ (let bad : ShelfFailed ≡ SinkFailed = sym h ∙ e in cc) | inr e ↦ (let bad : ShelfFailed ≡ Memory = sym h ∙ e in cc) ] ];
      too_long = λ h. (fault, pushed.whole h);
      too_long_always = λ exceeds rose. pushed.ends;
      sink_failed = λ h. (pushed.fault h, inr (inr (fault, pushed.part h)));
      shelf_told = λ counted. absurd (omega (arith, counted, same));
      length_told = λ counted. (fault, tells (refusal_line refusal.TooLong) TooLong pushed);
      sink_told = λ counted. elim pushed.ends [ inl e ↦ absurd (omega (arith, counted, pushed.uncounted e)) | inr f ↦ f ];
      memory = λ h. (record { made = []; meant = none; put = fault.same ∙ put_nothing s0.holds }, inl (keeps_appends k0.written k1.written (pushed.nothing h)));
    }

-- want of memory, with nothing put or pushed
pub memory_ends : (answers : Answer → Type 0) (fetches : List ℕ → ℕ → Type 0) (puts : Puts → Type 0) (s0 s1 : ShelfView) (k : SinkView) → puts [] →
    s1.holds ≡ s0.holds → s1.faults ≡ s0.faults → s1.refusals ≡ s0.refusals → Outcome answers fetches puts (run_of s0 k s1 k Memory)
memory_ends answers fetches puts s0 s1 k none same faults refusals = record {
  answered = λ h. absurd h;
  shelf_failed = λ h. cc;
  too_long = λ h. cc;
  too_long_always = λ exceeds rose. inr (inr refl);
  sink_failed = λ h. cc;
  shelf_told = λ counted. absurd (omega (arith, counted, faults));
  length_told = λ counted. absurd (omega (arith, counted, refusals));
  sink_told = λ counted. inr refl;
  memory = λ h. (record { made = []; meant = none; put = same ∙ put_nothing s0.holds }, inl (itself_appends k.written));
}

pub put_one : (old new : Option Holdings) (name bytes : List ℕ) → SetsName old new name bytes → new ≡ put_all old ((name, bytes) ∷ [])
put_one None new name bytes h = h
put_one (Some m) new name bytes h = h

-- more answers, fetches and puts
pub widened : (answers answers' : Answer → Type 0) (fetches fetches' : List ℕ → ℕ → Type 0) (puts puts' : Puts → Type 0) (run : Run) →
    ((a : Answer) → answers a → answers' a) → ((n : List ℕ) (l : ℕ) → fetches n l → fetches' n l) → ((p : Puts) → puts p → puts' p) →
    (ExceedsFetched fetches' (told run) → ¬ ShelfRose run → OrPushFault TooLong run.status) →
    Outcome answers fetches puts run → Outcome answers' fetches' puts' run
widened answers answers' fetches fetches' puts puts' run a f p always o = record {
  answered = λ h. let x = o.answered h in (x.0, a x.0 x.1, x.2);
  shelf_failed = λ h. let x = o.shelf_failed h in (shelf_wider x.0, x.1);
  too_long = λ h. let x = o.too_long h in (length_wider x.0, x.1);
  too_long_always = always;
  sink_failed = λ h. let x = o.sink_failed h in (
    x.0,
    elim x.1 [
      | inl y ↦ inl (record { answer = y.answer; meant = a y.answer y.meant; put = y.put; bytes = y.bytes; pushed = y.pushed })
      | inr y ↦ inr (elim y [ inl z ↦ inl (shelf_wider z.0, z.1) | inr z ↦ inr (length_wider z.0, z.1) ])
    ],
  );
  shelf_told = λ counted. let x = o.shelf_told counted in (shelf_wider x.0, x.1);
  length_told = λ counted. let x = o.length_told counted in (length_wider x.0, x.1);
  sink_told = o.sink_told;
  memory = λ h. let x = o.memory h in (
    record { made = x.0.made; meant = p x.0.made x.0.meant; put = x.0.put },
    elim x.1 [
      | inl y ↦ inl y
      | inr y ↦ inr (record { answer = y.answer; meant = a y.answer y.meant; put = y.put; bytes = y.bytes; pushed = y.pushed })
    ],
  );
}
  where
    shelf_wider : ShelfFault fetches puts run → ShelfFault fetches' puts' run
    shelf_wider x = elim x [
      | inl y ↦ inl (record { name = y.name; limit = y.limit; asked = f y.name y.limit y.asked; cause = y.cause; same = y.same })
      | inr y ↦ inr (record { made = y.made; failed = y.failed; meant = p (y.made ++ y.failed ∷ []) y.meant; rose = y.rose; put = y.put })
    ]

    length_wider : LengthFault fetches run → LengthFault fetches' run
    length_wider x = record { asked = (x.asked.0, x.asked.1, f x.asked.0 x.asked.1 x.asked.2); counted = x.counted; cause = some_wider (told run) x.cause; same = x.same }
      where
        some_wider : (o : Option Holdings) → IfSome o (λ _. ExceedsFetched fetches (told run)) → IfSome o (λ _. ExceedsFetched fetches' (told run))
        some_wider None h = tt
        some_wider (Some m) h = (h.0, h.1, f h.0 h.1 h.2, h.3)

abbrev outside_of : Option Holdings → ℕ → ℕ → SinkView → Outside
outside_of holds faults refusals sink = record { shelf = record { holds = holds; faults = faults; refusals = refusals }; sink = sink }

same_outside : (a b : Option Holdings) (f g r q : ℕ) (k l : SinkView) → b ≡ a → g ≡ f → q ≡ r → l ≡ k → outside_of b g q l ≡ outside_of a f r k
same_outside a b f g r q k l holds faults refusals sink = rw (holds, faults, refusals, sink) refl

-- a run that begins earlier
pub begun_earlier : (answers : Answer → Type 0) (fetches : List ℕ → ℕ → Type 0) (puts : Puts → Type 0) (before mid after : Outside) (status : Status) → IsUnchanged before mid →
    Outcome answers fetches puts (record { before = mid; after = after; status = status }) → Outcome answers fetches puts (record { before = before; after = after; status = status })
begun_earlier answers fetches puts before mid after status u o =
    let same : mid ≡ before = same_outside _ _ _ _ _ _ _ _ u.holds u.faults u.refusals u.sink in
    subst (λ x. Outcome answers fetches puts (record { before = x; after = after; status = status })) same o

-- the text of an answer that puts nothing is pushed in parts, after some fetches
pub rows_later : (answers : Answer → Type 0) (fetches : List ℕ → ℕ → Type 0) (puts : Puts → Type 0) (s0 s1 : ShelfView) (k0 k1 k2 : SinkView) (given status : Status) (text : List ℕ) →
    IsUnchanged (record { shelf = s0; sink = k0 }) (record { shelf = s1; sink = k1 }) → answers (only_text status text) → puts [] → IsAnswered status → ¬ ExceedsFetched fetches s0.holds →
    IsPushedInParts text status k1 k2 given → Outcome answers fetches puts (run_of s0 k0 s1 k2 given)
rows_later answers fetches puts s0 s1 k0 k1 k2 given status text same meant made ends short pushed =
    begun_earlier answers fetches puts (record { shelf = s0; sink = k0 }) (record { shelf = s1; sink = k1 }) (record { shelf = s1; sink = k2 }) given same
    (answer_pushed answers fetches puts s1 k1 k2 given status text meant made ends (subst (λ s. ¬ ExceedsFetched fetches s) (sym same.holds) short) pushed)

-- the same of a push in one piece
pub answered_later : (answers : Answer → Type 0) (fetches : List ℕ → ℕ → Type 0) (puts : Puts → Type 0) (s0 s1 : ShelfView) (k0 k1 k2 : SinkView) (given status : Status) (text : List ℕ) →
    IsUnchanged (record { shelf = s0; sink = k0 }) (record { shelf = s1; sink = k1 }) → answers (only_text status text) → puts [] → IsAnswered status → ¬ ExceedsFetched fetches s0.holds →
    IsPushed text status k1 k2 given → Outcome answers fetches puts (run_of s0 k0 s1 k2 given)
answered_later answers fetches puts s0 s1 k0 k1 k2 given status text same meant made ends short pushed =
    rows_later answers fetches puts s0 s1 k0 k1 k2 given status text same meant made ends short (in_parts text status k1 k2 given pushed)

pub memory_later : (answers : Answer → Type 0) (fetches : List ℕ → ℕ → Type 0) (puts : Puts → Type 0) (s0 s1 : ShelfView) (k0 k1 : SinkView) →
    IsUnchanged (record { shelf = s0; sink = k0 }) (record { shelf = s1; sink = k1 }) → puts [] → Outcome answers fetches puts (run_of s0 k0 s1 k1 Memory)
memory_later answers fetches puts s0 s1 k0 k1 same made =
    begun_earlier answers fetches puts (record { shelf = s0; sink = k0 }) (record { shelf = s1; sink = k1 }) (record { shelf = s1; sink = k1 }) Memory same
    (memory_ends answers fetches puts s1 s1 k1 made refl refl refl)

pub unchanged_again : (a b c : Outside) → IsUnchanged a b → IsUnchanged b c → IsUnchanged a c
unchanged_again a b c p q = record { holds = q.holds ∙ p.holds; faults = q.faults ∙ p.faults; refusals = q.refusals ∙ p.refusals; sink = q.sink ∙ p.sink }

-- fetched bytes are held, and short enough
pub not_exceeding : (shelf : Option Holdings) (name : List ℕ) (limit : ℕ) (bytes : List ℕ) → IsFetched shelf name limit bytes → ¬ Exceeds shelf name limit
not_exceeding None name limit bytes h e = e
not_exceeding (Some m) name limit bytes h e = too_short (held m name) h.told_bytes e
  where
    too_short : (o : Option (List ℕ)) → o ≡ Some bytes → IsSomeAnd o (λ own. limit < length own) → ⊥
    too_short None is e = e
    too_short (Some own) is e = let same : own ≡ bytes = cc in omega (arith, h.short, ap length same, e)

pub not_lacking : (shelf : Option Holdings) (name : List ℕ) (limit : ℕ) (bytes : List ℕ) → IsFetched shelf name limit bytes → ¬ Lacks shelf name
not_lacking None name limit bytes h e = e
not_lacking (Some m) name limit bytes h e = let is = h.told_bytes in cc

-- an answer that puts a file is put and pushed, after some fetches
pub put_later : (answers : Answer → Type 0) (fetches : List ℕ → ℕ → Type 0) (puts : Puts → Type 0) (s0 s1 s2 : ShelfView) (k0 k1 k2 : SinkView) (given status : Status) (text name bytes : List ℕ) →
    IsUnchanged (record { shelf = s0; sink = k0 }) (record { shelf = s1; sink = k1 }) → answers (record { status = status; text = text; puts = (name, bytes) ∷ [] }) → puts [] → puts ((name, bytes) ∷ []) →
    ¬ ExceedsFetched fetches s0.holds →
    Outcome (λ (a : Answer). a ≡ record { status = status; text = text; puts = (name, bytes) ∷ [] }) (λ wanted most. ⊥) (λ made. (made ≡ []) ⊎ (made ≡ (name, bytes) ∷ [])) (run_of s1 k1 s2 k2 given) →
    Outcome answers fetches puts (run_of s0 k0 s2 k2 given)
put_later answers fetches puts s0 s1 s2 k0 k1 k2 given status text name bytes same meant none one short o =
    begun_earlier answers fetches puts (record { shelf = s0; sink = k0 }) (record { shelf = s1; sink = k1 }) (record { shelf = s2; sink = k2 }) given same
    (widened _ answers _ fetches _ puts (run_of s1 k1 s2 k2 given) (λ a e. subst answers (sym e) meant) (λ n l f. absurd f)
    (λ p h. elim h [ inl e ↦ subst puts (sym e) none | inr e ↦ subst puts (sym e) one ])
    (λ exceeds rose. absurd (short (subst (λ s. ExceedsFetched fetches s) same.holds exceeds))) o)

-- a further fetch ends the run
pub fetch_later : (answers : Answer → Type 0) (fetches : List ℕ → ℕ → Type 0) (puts : Puts → Type 0) (s0 s1 s2 : ShelfView) (k0 k1 k2 : SinkView) (given : Status) (name : List ℕ) (limit : ℕ) →
    IsUnchanged (record { shelf = s0; sink = k0 }) (record { shelf = s1; sink = k1 }) → fetches name limit → puts [] → (ExceedsFetched fetches s0.holds → Exceeds s0.holds name limit) →
    Outcome (λ answer. ⊥) (λ wanted most. (wanted ≡ name) × (most ≡ limit)) (λ made. made ≡ []) (run_of s1 k1 s2 k2 given) →
    Outcome answers fetches puts (run_of s0 k0 s2 k2 given)
fetch_later answers fetches puts s0 s1 s2 k0 k1 k2 given name limit same fetch none only o =
    begun_earlier answers fetches puts (record { shelf = s0; sink = k0 }) (record { shelf = s1; sink = k1 }) (record { shelf = s2; sink = k2 }) given same
    (widened _ answers _ fetches _ puts (run_of s1 k1 s2 k2 given) (λ a e. absurd e) (λ n l f. subst (λ k. fetches k l) (sym f.0) (subst (λ k. fetches name k) (sym f.1) fetch))
    (λ p h. subst puts (sym h) none)
    (λ exceeds rose. o.too_long_always (name, limit, (refl, refl), subst (λ s. Exceeds s name limit) (sym same.holds) (only (subst (λ s. ExceedsFetched fetches s) same.holds exceeds))) rose) o)

put_more : (old new : Option Holdings) (put : List ℕ × List ℕ) (made : Puts) → new ≡ put_all old (put ∷ []) → put_all new made ≡ put_all old (put ∷ made)
put_more None new put made h = ap (λ s. put_all s made) h
put_more (Some m) new put made h = ap (λ s. put_all s made) h

-- a run that begins with a put
pub begun_with_put : (answers answers' : Answer → Type 0) (puts puts' : Puts → Type 0) (name bytes : List ℕ) (before mid after : Outside) (status : Status) → IsPut name bytes before mid →
    ((a : Answer) → answers a → answers' (after_put name bytes a)) → ((p : Puts) → puts p → puts' ((name, bytes) ∷ p)) →
    Outcome answers FetchesNothing puts (record { before = mid; after = after; status = status }) → Outcome answers' FetchesNothing puts' (record { before = before; after = after; status = status })
begun_with_put answers answers' puts puts' name bytes before mid after status put wider more o = record {
  answered = λ h. let x = o.answered h in (after_put name bytes x.0, wider x.0 x.1, record { status = x.2.status; put = x.2.put ∙ further x.0.puts; pushed = same_text x.0.text x.2.pushed });
  shelf_failed = λ h. let x = o.shelf_failed h in (shelf_earlier x.0, same_text (refusal_line refusal.ShelfFailed) x.1);
  too_long = λ h. absurd ((o.too_long h).0.asked.2);
  too_long_always = λ exceeds rose. absurd (exceeds.2);
  sink_failed = λ h. let x = o.sink_failed h in (
    rw (ap (λ (k : SinkView). k.faults) (sym put.sink)) x.0,
    elim x.1 [
      | inl y ↦ inl (part_earlier y)
      | inr y ↦ inr (elim y [ inl z ↦ inl (shelf_earlier z.0, (z.1.0, same_text (take z.1.0 (refusal_line refusal.ShelfFailed)) z.1.1)) | inr z ↦ absurd (z.0.asked.2) ])
    ],
  );
  shelf_told = λ counted. let x = o.shelf_told (omega (arith, counted, put.faults)) in (shelf_earlier x.0, tells_earlier ShelfFailed (refusal_line refusal.ShelfFailed) x.1);
  length_told = λ counted. absurd ((o.length_told (omega (arith, counted, put.refusals))).0.asked.2);
  sink_told = λ counted. o.sink_told (omega (arith, counted, ap (λ (k : SinkView). k.faults) put.sink));
  memory = λ h. let x = o.memory h in (
    record { made = (name, bytes) ∷ x.0.made; meant = more x.0.made x.0.meant; put = x.0.put ∙ further x.0.made },
    elim x.1 [ inl y ↦ inl (same_text [] y) | inr y ↦ inr (part_earlier y) ],
  );
}
  where
    same_text : (text : List ℕ) → Appends mid.sink.written after.sink.written text → Appends before.sink.written after.sink.written text
    same_text text h = subst (λ (k : SinkView). Appends k.written after.sink.written text) put.sink h

    further : (made : Puts) → put_all mid.shelf.holds made ≡ put_all before.shelf.holds ((name, bytes) ∷ made)
    further made = put_more before.shelf.holds mid.shelf.holds (name, bytes) made put.holds

    part_earlier : PushesPart answers (record { before = mid; after = after; status = status }) → PushesPart answers' (record { before = before; after = after; status = status })
    part_earlier y = record { answer = after_put name bytes y.answer; meant = wider y.answer y.meant; put = y.put ∙ further y.answer.puts; bytes = y.bytes; pushed = same_text (take y.bytes y.answer.text) y.pushed }

    shelf_earlier : ShelfFault FetchesNothing puts (record { before = mid; after = after; status = status }) → ShelfFault FetchesNothing puts' (record { before = before; after = after; status = status })
    shelf_earlier x = elim x [
      | inl y ↦ absurd (y.asked)
      | inr y ↦ inr (record {
        made = (name, bytes) ∷ y.made;
        failed = y.failed;
        meant = more (y.made ++ y.failed ∷ []) y.meant;
        rose = omega (arith, y.rose, put.faults);
        put = y.put ∙ further y.made;
      })
    ]

    tells_earlier : (own : Status) (line : List ℕ) → TellsFault own line (record { before = mid; after = after; status = status }) → TellsFault own line (record { before = before; after = after; status = status })
    tells_earlier own line t = elim t [
      | inl x ↦ inl (x.0, same_text line x.1)
      | inr y ↦ inr (elim y [ inl x ↦ inl (x.0, (x.1.0, same_text (take x.1.0 line) x.1.1)) | inr x ↦ inr (x.0, same_text [] x.1) ])
    ]

-- the text of an answer is pushed after its one put
pub put_pushed : (s0 s1 : ShelfView) (k0 k1 k2 : SinkView) (given status : Status) (name text bytes : List ℕ) →
    IsPut name bytes (record { shelf = s0; sink = k0 }) (record { shelf = s1; sink = k1 }) → IsAnswered status → IsPushed text status k1 k2 given →
    Outcome (λ (a : Answer). a ≡ record { status = status; text = text; puts = (name, bytes) ∷ [] }) FetchesNothing (PutsOne name bytes) (run_of s0 k0 s1 k2 given)
put_pushed s0 s1 k0 k1 k2 given status name text bytes put ends pushed =
    begun_with_put (λ (a : Answer). a ≡ only_text status text) _ (λ made. made ≡ []) _ name bytes (record { shelf = s0; sink = k0 }) (record { shelf = s1; sink = k1 }) (record { shelf = s1; sink = k2 }) given put
    (λ a e. ap (after_put name bytes) e) (λ p e. inr (rw e refl))
    (answer_pushed _ _ _ s1 k1 k2 given status text refl refl ends (λ e. e.2) (in_parts text status k1 k2 given pushed))

-- a run that a put ends
pub put_ended : (answers : Answer → Type 0) (puts : Puts → Type 0) (name bytes : List ℕ) (run : Run) → ((p : Puts) → PutsOne name bytes p → puts p) →
    Outcome (λ answer. ⊥) FetchesNothing (PutsOne name bytes) run → Outcome answers FetchesNothing puts run
put_ended answers puts name bytes run wider o = widened _ answers _ FetchesNothing _ puts run (λ a e. absurd e) (λ n l f. f) wider (λ exceeds rose. absurd exceeds.2) o
