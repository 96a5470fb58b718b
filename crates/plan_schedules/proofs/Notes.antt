-- Noting uses: what the safety book keeps of the containers after a new job was noted.
use Rattle.std.proofs.Common.{◌≡◌, ℕ, zero, suc, ◌+◌, ◌<◌, ◌≤◌, ⊎_elim, Bool, true, false, ◌&&◌, ◌||◌, not, eqb-true, List, [], ◌∷◌, map, refl, sym, ap, subst, ◌∙◌, arith}
use Rattle.std.specs.Prelude.{nat_eq, if◌then◌else◌}
use Rattle.std.proofs.lemmas.Bool.{or_left, or_right, or_cases, and_parts}
use Rattle.frame_ast.specs.declared.kernel.Param.{Param}
use Rattle.frame_ast.specs.declared.script.Arg.{Arg}
use Rattle.frame_ast.specs.declared.script.Arg.TheVariants.{Name, Number}
use Rattle.frame_ast.specs.Conflicts.{Uses, Need, blockers, blocker, blocking, uses_it, writes_it, with_uses}
use Rattle.frame_ast.specs.Effects.{view_broken, all_broken}
use Rattle.frame_ast.specs.Fitting.{is_given, is_written, AreUnshared}
use Rattle.frame_ast.specs.Jobs.{Jobs, Book, greatest, happens_before, with_job}
use Rattle.frame_ast.specs.Laws.{IsBook, AreUses, AreUpTo}
use Rattle.frame_ast.specs.Schedules.{Given, given_args, is_list, writes_to}
use Rattle.frame_ast.specs.States.{ScriptState, container_at}
use Rattle.safety_handle.specs.Entries.{SlotState}
use Rattle.safety_handle.specs.Uses.{Latest, StandForUses, noted_read, noted_write}
use Rattle.safety_handle.proofs.Latest.{noted_read_stands, noted_write_stands, unused_stands}
use Rattle.frame_core.proofs.Small.{not_both, or_false_left, or_false_right}

abbrev pub needs : List Given → List Need
needs gs = map (λ g. g.need) gs

-- ---- one container, as the values of the schedule use it

module _ (job c : ℕ) where
  abbrev given_state : Given → SlotState → SlotState
  given_state g st = record st {
    view = if is_list g.kind && g.need.writes then st.view + 1 else st.view;
    latest = if g.need.writes then noted_write st.latest job else noted_read st.latest job;
  }

  abbrev pub folded : List Given → SlotState → SlotState
  folded [] st = st
  folded (g ∷ gs) st = folded gs (if nat_eq c g.need.container then given_state g st else st)

  pub folded_live : (gs : List Given) (st : SlotState) → (folded gs st).live ≡ st.live
  folded_live [] st = refl
  folded_live (g ∷ gs) st = folded_live gs (if nat_eq c g.need.container then given_state g st else st) ∙ by (nat_eq c g.need.container)
    where
      by : (b : Bool) → (if b then given_state g st else st).live ≡ st.live
      by true = refl
      by false = refl

  pub folded_version : (gs : List Given) (st : SlotState) → (folded gs st).version ≡ st.version
  folded_version [] st = refl
  folded_version (g ∷ gs) st = folded_version gs (if nat_eq c g.need.container then given_state g st else st) ∙ by (nat_eq c g.need.container)
    where
      by : (b : Bool) → (if b then given_state g st else st).version ≡ st.version
      by true = refl
      by false = refl

  -- its views are broken as the script breaks them
  pub folded_view : (gs : List Given) (st : SlotState) (s : ScriptState) → st.view ≡ s.view c → (folded gs st).view ≡ (all_broken gs s).view c
  folded_view [] st s e = e
  folded_view (g ∷ gs) st s e =
      folded_view gs (if nat_eq c g.need.container then given_state g st else st)
      (if is_list g.kind && g.need.writes then view_broken g.need.container s else s)
      (by (nat_eq c g.need.container) refl (is_list g.kind && g.need.writes))
    where
      with_view : Bool → SlotState
      with_view b = record st {
        view = if b then st.view + 1 else st.view;
        latest = if g.need.writes then noted_write st.latest job else noted_read st.latest job;
      }

      by : (x : Bool) → nat_eq c g.need.container ≡ x → (b : Bool)
          → (if x then record st {
            view = if b then st.view + 1 else st.view;
            latest = if g.need.writes then noted_write st.latest job else noted_read st.latest job;
          } else st).view ≡ (if b then view_broken g.need.container s else s).view c
      by true h true =
          let at : c ≡ g.need.container = eqb-true c g.need.container h in
          ap (λ v. v + 1) (e ∙ ap s.view at)
          ∙ sym (ap (λ x. if x then s.view g.need.container + 1 else s.view c) h)
      by true h false = e
      by false h true = e ∙ sym (ap (λ x. if x then s.view g.need.container + 1 else s.view c) h)
      by false h false = e

  pub folded_unused : (gs : List Given) (st : SlotState) → uses_it (needs gs) c ≡ false → folded gs st ≡ st
  folded_unused [] st e = refl
  folded_unused (g ∷ gs) st e =
      ap (λ b. folded gs (if b then given_state g st else st)) (or_false_left (nat_eq c g.need.container) (uses_it (needs gs) c) e)
      ∙ folded_unused gs st (or_false_right (nat_eq c g.need.container) (uses_it (needs gs) c) e)

  -- that job is one more reader
  record IsRead (used : Bool) (st new : Latest) : Type 0 where
    writer : new.writer ≡ st.writer
    readers : (j : ℕ) → new.readers j ≡ (st.readers j || (used && nat_eq j job))

  folded_read : (gs : List Given) (st : SlotState) → writes_it (needs gs) c ≡ false → IsRead (uses_it (needs gs) c) st.latest (folded gs st).latest
  folded_read [] st e = record { writer = refl; readers = λ j. sym (or_none (st.latest.readers j)) }
    where
      or_none : (b : Bool) → (b || false) ≡ b
      or_none true = refl
      or_none false = refl
  folded_read (g ∷ gs) st e = by (folded_read gs) (nat_eq c g.need.container) refl
    where
      rest : writes_it (needs gs) c ≡ false
      rest = or_false_right (g.need.writes && nat_eq c g.need.container) (writes_it (needs gs) c) e

      reads : nat_eq c g.need.container ≡ true → g.need.writes ≡ false
      reads h = first g.need.writes (ap (λ b. g.need.writes && b) (sym h)
          ∙ or_false_left (g.need.writes && nat_eq c g.need.container) (writes_it (needs gs) c) e)
        where
          first : (w : Bool) → (w && true) ≡ false → w ≡ false
          first true h = absurd cc
          first false h = refl

      twice : (a x y : Bool) → ((a || x) || (y && x)) ≡ (a || x)
      twice true x y = refl
      twice false true y = refl
      twice false false true = refl
      twice false false false = refl

      by : ((st : SlotState) → writes_it (needs gs) c ≡ false → IsRead (uses_it (needs gs) c) st.latest (folded gs st).latest) → (x : Bool)
          → nat_eq c g.need.container ≡ x → IsRead (x || uses_it (needs gs) c) st.latest (folded gs (if x then given_state g st else st)).latest
      by step false h = step st rest
      by step true h =
          let more = step (given_state g st) rest in
          let read : (given_state g st).latest ≡ noted_read st.latest job =
          ap (λ w. if w then noted_write st.latest job else noted_read st.latest job) (reads h) in
          record {
            writer = more.writer ∙ ap (λ (l : Latest). l.writer) read;
            readers = λ j.
                more.readers j
                ∙ ap (λ (l : Latest). l.readers j || (uses_it (needs gs) c && nat_eq j job)) read
                ∙ twice (st.latest.readers j) (nat_eq j job) (uses_it (needs gs) c);
          }

-- ---- values of which none is an alias of another

abbrev pub AreApart : List Given → Type 0
AreApart [] = Unit {0}
AreApart (g ∷ gs) =
    ((c : ℕ) → nat_eq c g.need.container ≡ true → g.need.writes ≡ true → uses_it (needs gs) c ≡ false)
    × ((c : ℕ) → nat_eq c g.need.container ≡ true → writes_it (needs gs) c ≡ false)
    × AreApart gs

pub args_apart : (s : ScriptState) (ps : List Param) (as_ : List Arg) → AreUnshared s ps as_ → AreApart (given_args s ps as_)
args_apart s ps as_ u = go ps as_ u
  where
    used_are : (ps : List Param) (as_ : List Arg) (c : ℕ) → uses_it (needs (given_args s ps as_)) c ≡ is_given s ps as_ c
    used_are [] as_ c = refl
    used_are (p ∷ ps) [] c = refl
    used_are (p ∷ ps) (Name n ∷ as_) c = ap (λ b. nat_eq c (container_at s n) || b) (used_are ps as_ c)
    used_are (p ∷ ps) (Number z ∷ as_) c = used_are ps as_ c

    turned : (a b : Bool) → (a && b) ≡ (b && a)
    turned true true = refl
    turned true false = refl
    turned false true = refl
    turned false false = refl

    written_are : (ps : List Param) (as_ : List Arg) (c : ℕ) → writes_it (needs (given_args s ps as_)) c ≡ is_written s ps as_ c
    written_are [] as_ c = refl
    written_are (p ∷ ps) [] c = refl
    written_are (p ∷ ps) (Name n ∷ as_) c =
        let e = turned (writes_to p.access) (nat_eq c (container_at s n)) in
        let more = written_are ps as_ c in
        λ i. e i || more i
    written_are (p ∷ ps) (Number z ∷ as_) c = written_are ps as_ c

    go : (ps : List Param) (as_ : List Arg) → AreUnshared s ps as_ → AreApart (given_args s ps as_)
    go [] as_ u = tt
    go (p ∷ ps) [] u = tt
    go (p ∷ ps) (Name n ∷ as_) u = (
      λ c here writes. used_are ps as_ c ∙ u.0.written c here writes,
      λ c here. written_are ps as_ c ∙ u.0.read c here,
      go ps as_ u.1,
    )
    go (p ∷ ps) (Number z ∷ as_) u = go ps as_ u.1

-- the last writer is that job
folded_written : (job c : ℕ) (gs : List Given) (st : SlotState) → AreApart gs → writes_it (needs gs) c ≡ true
    → (folded job c gs st).latest ≡ noted_write st.latest job
folded_written job c [] st a e = absurd (not_both e refl)
folded_written job c (g ∷ gs) st a e = by (folded_written job c gs st a.2) (nat_eq c g.need.container) refl g.need.writes refl
  where
    here : (w : Bool) → g.need.writes ≡ w → nat_eq c g.need.container ≡ true → (folded job c gs (given_state job c g st)).latest ≡ noted_write st.latest job
    here true w h =
        ap (λ (x : SlotState). x.latest) (folded_unused job c gs (given_state job c g st) (a.0 c h w))
        ∙ ap (λ w. if w then noted_write st.latest job else noted_read st.latest job) w
    here false w h =
        absurd (not_both (⊎_elim (λ x. absurd (not_both (and_parts g.need.writes (nat_eq c g.need.container) x).0 w)) (λ x. x)
        (or_cases (g.need.writes && nat_eq c g.need.container) (writes_it (needs gs) c) e)) (a.1 c h))

    by : (writes_it (needs gs) c ≡ true → (folded job c gs st).latest ≡ noted_write st.latest job) → (x : Bool) → nat_eq c g.need.container ≡ x → (w : Bool)
        → g.need.writes ≡ w → (folded job c gs (if x then given_state job c g st else st)).latest ≡ noted_write st.latest job
    by rest true h w is = here w is h
    by rest false h w is =
        rest
        (⊎_elim (λ x. absurd (not_both (and_parts g.need.writes (nat_eq c g.need.container) x).1 h)) (λ x. x)
        (or_cases (g.need.writes && nat_eq c g.need.container) (writes_it (needs gs) c) e))

-- ---- what isn't blocked

greatest_zero : (set : Jobs) (n : ℕ) → ((j : ℕ) → 0 < j → j ≤ n → set j ≡ false) → greatest set n ≡ 0
greatest_zero set zero h = refl
greatest_zero set (suc n) h =
    ap (λ b. if b then suc n else greatest set n) (h (suc n) (omega arith) (omega arith))
    ∙ greatest_zero set n (λ j pos le. h j pos (omega arith))

module _ (b : Book) (uses : ℕ → Uses) (deps : Jobs) (c j : ℕ) where
  abbrev of : Bool → Bool
  of writes = blockers b (uses c) deps writes j

  weaker : (w x h : Bool) (u v : Bool) → ((v || (x && u)) && h) ≡ false → (w ≡ true → x ≡ true) → ((v || (w && u)) && h) ≡ false
  weaker w true h true true e k = by w e
    where
      by : (w : Bool) → (true && h) ≡ false → ((true || (w && true)) && h) ≡ false
      by true e = e
      by false e = e
  weaker true true h u v e k = e
  weaker true false h u v e k = absurd (not_both (k refl) refl)
  weaker false true h true false e k = refl
  weaker false true h false true e k = e
  weaker false true h false false e k = refl
  weaker false false h u v e k = e

  free : (gs : List Given) (w : Bool) → (if w then writes_it (needs gs) c else uses_it (needs gs) c) ≡ true → blocking b uses deps (needs gs) j ≡ false
      → of w ≡ false
  free [] true e h = absurd (not_both e refl)
  free [] false e h = absurd (not_both e refl)
  free (g ∷ gs) true e h = ⊎_elim
      (λ x.
      let parts = and_parts g.need.writes (nat_eq c g.need.container) x in
      let first = or_false_left (blockers b (uses g.need.container) deps g.need.writes j) (blocking b uses deps (needs gs) j) h in
      let at = eqb-true c g.need.container parts.1 in
      subst (λ k. blockers b (uses k) deps true j ≡ false) (sym at) (subst (λ w. blockers b (uses g.need.container) deps w j ≡ false) parts.0 first))
      (λ x. free gs true x (or_false_right (blockers b (uses g.need.container) deps g.need.writes j) (blocking b uses deps (needs gs) j) h))
      (or_cases (g.need.writes && nat_eq c g.need.container) (writes_it (needs gs) c) e)
  free (g ∷ gs) false e h = ⊎_elim
      (λ x.
      let first = or_false_left (blockers b (uses g.need.container) deps g.need.writes j) (blocking b uses deps (needs gs) j) h in
      let at = eqb-true c g.need.container x in
      subst (λ k. blockers b (uses k) deps false j ≡ false) (sym at)
      (weaker false g.need.writes (not (happens_before b deps j)) ((uses g.need.container).users j) ((uses g.need.container).writers j) first
      (λ w. absurd (not_both w refl))))
      (λ x. free gs false x (or_false_right (blockers b (uses g.need.container) deps g.need.writes j) (blocking b uses deps (needs gs) j) h))
      (or_cases (nat_eq c g.need.container) (uses_it (needs gs) c) e)

-- a writer is a user
written_used : (gs : List Given) (c : ℕ) → writes_it (needs gs) c ≡ true → uses_it (needs gs) c ≡ true
written_used [] c e = absurd (not_both e refl)
written_used (g ∷ gs) c e = ⊎_elim
    (λ x. or_left (nat_eq c g.need.container) (uses_it (needs gs) c) (and_parts g.need.writes (nat_eq c g.need.container) x).1)
    (λ x. or_right (nat_eq c g.need.container) (uses_it (needs gs) c) (written_used gs c x))
    (or_cases (g.need.writes && nat_eq c g.need.container) (writes_it (needs gs) c) e)

-- ---- the book stands for the uses of all containers

module _ (b : Book) (known : IsBook b) (uses : ℕ → Uses) (are : (c : ℕ) → AreUses b (uses c)) (deps : Jobs) (up : AreUpTo b.count deps) (gs : List Given)
    (apart : AreApart gs)
    (open_ : (j : ℕ) → 0 < j → j ≤ b.count → blocking b uses deps (needs gs) j ≡ false) (c : ℕ) (st : SlotState)
    (stands : StandForUses b st.latest (uses c)) where
  abbrev job : ℕ
  job = suc b.count

  abbrev uses_after : Bool → Bool → Uses
  uses_after used written = record {
    users = λ j. (uses c).users j || (nat_eq j job && used);
    writers = λ j. (uses c).writers j || (nat_eq j job && written);
  }

  none : (w : Bool) → (if w then writes_it (needs gs) c else uses_it (needs gs) c) ≡ true → blocker b (uses c) deps w ≡ 0
  none w e = greatest_zero (blockers b (uses c) deps w) b.count (λ j pos le. free b uses deps c j gs w e (open_ j pos le))

  pub folded_stands : StandForUses (with_job b deps) (folded job c gs st).latest (with_uses uses job (needs gs) c)
  folded_stands = by (writes_it (needs gs) c) refl (uses_it (needs gs) c) refl
    where
      by : (w : Bool) → writes_it (needs gs) c ≡ w → (u : Bool) → uses_it (needs gs) c ≡ u
          → StandForUses (with_job b deps) (folded job c gs st).latest (with_uses uses job (needs gs) c)
      by true w u is =
          let used : uses_it (needs gs) c ≡ true = written_used gs c w in
          subst (λ (us : Uses). StandForUses (with_job b deps) (folded job c gs st).latest us) (λ i. uses_after (sym used i) (sym w i))
          (subst (λ (l : Latest). StandForUses (with_job b deps) l (uses_after true true)) (sym (folded_written job c gs st apart w))
          (noted_write_stands b st.latest (uses c) known (are c) stands deps up (none true w)))
      by false w true is =
          let read = folded_read job c gs st w in
          let latest : noted_read st.latest job ≡ (folded job c gs st).latest = λ i. record {
            writer = sym read.writer i;
            readers = λ j. (sym (read.readers j ∙ ap (λ x. st.latest.readers j || (x && nat_eq j job)) is)) i;
          } in
          subst (λ (us : Uses). StandForUses (with_job b deps) (folded job c gs st).latest us) (λ i. uses_after (sym is i) (sym w i))
          (subst (λ (l : Latest). StandForUses (with_job b deps) l (uses_after true false)) latest
          (noted_read_stands b st.latest (uses c) known (are c) stands deps up (none false is)))
      by false w false is =
          subst (λ (us : Uses). StandForUses (with_job b deps) (folded job c gs st).latest us) (λ i. uses_after (sym is i) (sym w i))
          (subst (λ (x : SlotState). StandForUses (with_job b deps) x.latest (uses_after false false)) (sym (folded_unused job c gs st is))
          (unused_stands b st.latest (uses c) known (are c) stands deps up))

-- of a container that the schedule doesn't use, what stood for its uses still does
pub unused_stand : (b : Book) → IsBook b → (uses : ℕ → Uses) → ((c : ℕ) → AreUses b (uses c)) → (deps : Jobs) → AreUpTo b.count deps
    → (gs : List Given) (c : ℕ) (l : Latest) → uses_it (needs gs) c ≡ false
    → StandForUses b l (uses c) → StandForUses (with_job b deps) l (with_uses uses (suc b.count) (needs gs) c)
unused_stand b known uses are deps up gs c l unused stands =
    let unwritten = by (writes_it (needs gs) c) refl in
    subst (λ (us : Uses). StandForUses (with_job b deps) l us)
    (λ i. record {
      users = λ j. (uses c).users j || (nat_eq j (suc b.count) && sym unused i);
      writers = λ j. (uses c).writers j || (nat_eq j (suc b.count) && sym unwritten i);
    })
    (unused_stands b l (uses c) known (are c) stands deps up)
  where
    by : (w : Bool) → writes_it (needs gs) c ≡ w → writes_it (needs gs) c ≡ false
    by true e = absurd (not_both (written_used gs c e) unused)
    by false e = e
