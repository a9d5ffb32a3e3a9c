-- The records that a reader gives are those of the bytes.
use Rattle.std.proofs.Common.{Bor, ℕ, List, [], ◌∷◌, ◌++◌, length, append_assoc, Bool, true, false, Option, None, Some, IfSome, ◌≡◌, ◌≤◌, ◌+◌, ◌-◌, if◌then◌else◌, inl, refl, sym, ap, ◌∙◌, arith}
use Rattle.std.proofs.lemmas.List.{append-nil}
use Rattle.csv.specs.Machine.{Read, next_record}
use Rattle.csv.specs.declared.parser.Config.{Config}
use Rattle.csv.specs.declared.parser.State.{State}
use Rattle.csv.specs.Reading.{NextIs, ReadRecord, ReadsNext, TookRecord, default_config, records_from, pending_of, strip_bom, is_bom}
use Rattle.csv.specs.declared.parser.State.TheVariants as st
use Rattle.csv.specs.declared.reader.Reader.{Reader}
use Rattle.csv.proofs.ReadFacts.{rows-more, rows-end, reached-more}
use Rattle.log_monitor.specs.Log.{Fields, records_in}
use Rattle.log_monitor.specs.TakenRecords.{HasTaken, first_count}
use Rattle.log_monitor.proofs.Records.{read_count, read_first, read_all}

bytes_of : Bor (List ℕ) → Option (List ℕ)
bytes_of s = Some s.now

strip_count : (xs : List ℕ) → length (strip_bom xs) ≤ length xs
unfolding strip_bom
strip_count [] = omega arith
strip_count (a ∷ []) = omega arith
strip_count (a ∷ b ∷ []) = omega arith
strip_count (a ∷ b ∷ c ∷ rest) = by (is_bom a b c)
  where
    by : (mark : Bool) → length (if mark then rest else a ∷ b ∷ c ∷ rest) ≤ length (a ∷ b ∷ c ∷ rest)
    by true = omega arith
    by false = omega arith

count_more : (taken : List Fields) (fields : Fields) (old new : Option ℕ) → old ≡ first_count taken → IfSome old (λ e. new ≡ Some e) × (new ≡ Some (length fields)) →
    new ≡ first_count (taken ++ fields ∷ [])
count_more [] fields old new e h = h.1
count_more (first ∷ taken) fields old new e h = rw e at h.0

-- a read that found a record read the next one
next_of : (cfg : Config) (s s2 : State) (y : List ℕ) (k : Option (List ℕ)) (fields : Fields) → ReadsNext cfg s (Some y) k true fields s2 →
    (p : Read) × (next_record cfg s [] [] y ≡ Some p) × (fields ≡ p.0)
next_of cfg s s2 y None fields r = absurd r
next_of cfg s s2 y (Some z) fields r = by (next_record cfg s [] [] y) refl r
  where
    by : (o : Option Read) → next_record cfg s [] [] y ≡ o → NextIs o true fields s2 z →
        (p : Read) × (next_record cfg s [] [] y ≡ Some p) × (fields ≡ p.0)
    by None e n = cc n
    by (Some p) e n = (p, e, n.1)

module _ (bytes : List ℕ) (a : Reader (Bor (List ℕ))) (taken : List Fields) (has : HasTaken bytes a taken) where
  pub taken_count : length taken ≤ length bytes
  taken_count = omega (arith, strip_count bytes, read_count taken st.StartRecord a.state (strip_bom bytes) has.rest refl has.reached)

  -- they are the first records of the bytes
  pub taken_first : (rest : List Fields) × (records_in bytes ≡ taken ++ rest)
  taken_first =
      let n : ℕ = length (strip_bom bytes) + 1 in
      let few : length taken ≤ n = omega (arith, read_count taken st.StartRecord a.state (strip_bom bytes) has.rest refl has.reached) in
      (records_from default_config (n - length taken) a.state has.rest, read_first n taken st.StartRecord a.state (strip_bom bytes) has.rest few has.reached)

  pub taken_more : (b : Reader (Bor (List ℕ))) (fields : Fields) → ReadRecord (λ s. Some s.now) a b true fields →
      b.first ≡ true → b.flexible ≡ a.flexible → HasTaken bytes b (taken ++ fields ∷ [])
  taken_more b fields read first flexible =
      let m = rows-more (λ (s : Bor (List ℕ)). Some s.now) a b fields default_config st.StartRecord (strip_bom bytes) has.rest taken has.config has.source has.reached read in
      record {
        trim = read.3 ∙ has.trim;
        ready = inl first;
        config = read.2 ∙ has.config;
        flexible = flexible ∙ has.flexible;
        rest = m.0;
        source = m.1;
        reached = m.2;
        expected = count_more taken fields a.expected b.expected has.expected (read.5 refl has.flexible);
      }

  -- where there is no more record they are all
  pub taken_all : (b : Reader (Bor (List ℕ))) (fields : Fields) → ReadRecord (λ s. Some s.now) a b false fields → records_in bytes ≡ taken
  taken_all b fields read =
      let n : ℕ = length (strip_bom bytes) + 1 in
      let few : length taken ≤ n = omega (arith, read_count taken st.StartRecord a.state (strip_bom bytes) has.rest refl has.reached) in
      let none = rows-end (λ (s : Bor (List ℕ)). Some s.now) a b fields default_config has.rest has.config has.source read in
      read_first n taken st.StartRecord a.state (strip_bom bytes) has.rest few has.reached
      ∙ ap (λ more. taken ++ more) (read_all (n - length taken) a.state has.rest none) ∙ append-nil taken

  -- a record that the reader refuses for its number of fields comes next
  pub taken_next : (b : Reader (Bor (List ℕ))) (fields : Fields) → TookRecord (λ s. Some s.now) a b fields → (rest : List Fields) × (records_in bytes ≡ taken ++ fields ∷ rest)
  taken_next b fields took =
      let n : ℕ = length (strip_bom bytes) + 1 in
      let next = next_of default_config a.state b.state has.rest (pending_of (Some b.rdr.now) b) fields (rw (has.config, has.source) at took) in
      let p = next.0 in
      let more = reached-more default_config st.StartRecord a.state (strip_bom bytes) has.rest taken p has.reached next.1 in
      let few : length (taken ++ p.0 ∷ []) ≤ n = omega (arith, read_count (taken ++ p.0 ∷ []) st.StartRecord p.1 (strip_bom bytes) p.2 refl more) in
      let rest = records_from default_config (n - length (taken ++ p.0 ∷ [])) p.1 p.2 in
      (rest, read_first n (taken ++ p.0 ∷ []) st.StartRecord p.1 (strip_bom bytes) p.2 few more ∙ append_assoc taken (p.0 ∷ []) rest ∙ ap (λ (f : Fields). taken ++ f ∷ rest) (sym next.2))
