-- What a job is given, and what it leaves.
use Rattle.std.proofs.Common.{◌||◌, ◌≡◌, ℕ, zero, suc, ◌+◌, ◌<◌, ◌≤◌, ◌⊎◌, inl, inr, ⊎_elim, Bool, true, false, cond, eqb-true, eq-eqb, ◌&&◌, List, [], ◌∷◌, ◌++◌, length, take, drop, Some, refl, sym, ap, subst, ◌∙◌, arith}
use Rattle.std.specs.Prelude.{slice_get, nat_eq, if◌then◌else◌, ℤ}
use Rattle.std.proofs.lemmas.Bool.{cases_lt}
use Rattle.job_base.specs.Cells.{cell_list}
use Rattle.job_base.proofs.Windows.{length-cell_list}
use Rattle.frame_ast.specs.declared.kernel.ParamKind.{ParamKind}
use Rattle.frame_ast.specs.declared.kernel.ParamKind.TheVariants.{Int as IntKind, Array as ArrayKind, List as ListKind, Ref as RefKind, Map as MapKind, Stream as StreamKind}
use Rattle.frame_ast.specs.declared.kernel.Param.{Param}
use Rattle.frame_ast.specs.declared.script.Arg.{Arg}
use Rattle.frame_ast.specs.declared.script.Arg.TheVariants.{Name, Number}
use Rattle.frame_ast.specs.Arguments.{argument}
use Rattle.frame_ast.specs.Contents.{Contents, Cells as Elements, Single, Items, Pairs, Entries, elements}
use Rattle.frame_ast.specs.Ranges.{Starts}
use Rattle.frame_ast.specs.States.{ScriptState, Value, with_at, container_at, contents_at, with_contents}
use Rattle.frame_ast.specs.Schedules.{writes_to, seen_as, argument_of, arguments_of, left_in, leave, leave_all}
use Rattle.native_array.specs.declared.array.ArrayAt.{ArrayAt}
use Rattle.native_array.specs.Layout.{StandsFor as ArrayStandsFor}
use Rattle.native_array.proofs.Parts.{slice_is_part}
use Rattle.native_array.proofs.Standing.{own_words_decide as array_decides}
use Rattle.native_stream.specs.Layout.{HoldsEntries}
use Rattle.kernel_exec.specs.declared.binds.Bind.{Bind}
use Rattle.kernel_exec.specs.declared.binds.Bind.TheVariants.{Array}
use Rattle.kernel_exec.specs.Binds.{IsWordOf}
use Rattle.kernel_exec.specs.Footprint.{IsLength}
use Rattle.kernel_exec.specs.Layout.{Holds, StandFor}
use Rattle.kernel_exec.proofs.Stand.{still}
use Rattle.merge_laws.specs.Graph.{Cells}
use Rattle.frame_core.proofs.Small.{not_both, some_is, none_some}
use Rattle.plan_laws.specs.Binds.{bind_of, bind_as, bind_by, bind_of_container, start_at, binds_by}
use Rattle.frame_ast.specs.Fitting.{is_of, is_given, is_written, AreUnshared}
use Rattle.plan_laws.specs.Leaving.{AllHeld, ArgumentsStand, JobLeaves, LeftContentsAreHeld}
use Rattle.plan_laws.proofs.Schedules.Fitting.{FitsKind, ArgFits, ArgsFit, args_are}

-- ---- what is given

items_same : (cap cap' : ℕ) (xs ys : List ℤ) → Items cap xs ≡ Items cap' ys → xs ≡ ys
items_same cap cap' xs ys e = ap elements e

pub given_holds : (kind : ParamKind) (width : ℕ) (v : Value) (start : ℕ) (cells : Cells) (c : Contents) → FitsKind kind v c → Holds cells (bind_of start c) c
    → Holds cells (bind_as kind width v start c) (seen_as kind v c)
given_holds IntKind width v start cells c f h = absurd f
given_holds ArrayKind width Value.Dead start cells c f h = absurd f
given_holds ArrayKind width (Value.Whole n) start cells (Elements xs) f h = h
given_holds ArrayKind width (Value.Whole n) start cells (Single z) f h = absurd f
given_holds ArrayKind width (Value.Whole n) start cells (Items cap xs) f h = (h.0, ap Elements (items_same cap cap xs h.0 h.1), h.2)
given_holds ArrayKind width (Value.Whole n) start cells (Pairs cap ps) f h = absurd f
given_holds ArrayKind width (Value.Whole n) start cells (Entries room es) f h = absurd f
given_holds ArrayKind width (Value.Slice n from len) start cells (Elements xs) f h =
    (slice_is_part (record { start = start; len = length xs }) from len f).reads cells (Elements xs) h
given_holds ArrayKind width (Value.Slice n from len) start cells (Single z) f h = absurd f
given_holds ArrayKind width (Value.Slice n from len) start cells (Items cap xs) f h = absurd f
given_holds ArrayKind width (Value.Slice n from len) start cells (Pairs cap ps) f h = absurd f
given_holds ArrayKind width (Value.Slice n from len) start cells (Entries room es) f h = absurd f
given_holds ArrayKind width (Value.View n number) start cells (Elements xs) f h = absurd f
given_holds ArrayKind width (Value.View n number) start cells (Single z) f h = absurd f
given_holds ArrayKind width (Value.View n number) start cells (Items cap xs) f h = (h.0, ap Elements (items_same cap cap xs h.0 h.1), h.2)
given_holds ArrayKind width (Value.View n number) start cells (Pairs cap ps) f h = absurd f
given_holds ArrayKind width (Value.View n number) start cells (Entries room es) f h = absurd f
given_holds ArrayKind width (Value.Handle jobs) start cells c f h = absurd f
given_holds ListKind width v start cells c f h = h
given_holds RefKind width v start cells c f h = h
given_holds MapKind width v start cells c f h = h
given_holds StreamKind width v start cells (Elements xs) f h = cc
given_holds StreamKind width v start cells (Single z) f h = cc
given_holds StreamKind width v start cells (Items cap xs) f h = cc
given_holds StreamKind width v start cells (Pairs cap ps) f h = cc
given_holds StreamKind width v start cells (Entries room es) f h = h

argument_holds : (starts : Starts) (s : ScriptState) (cells : Cells) (p : Param) (w : ℕ) (a : Arg) → AllHeld starts s cells → ArgFits s p a
    → Holds cells (bind_by starts s p w a) (argument_of s p a)
argument_holds starts s cells p w (Name n) held f = given_holds p.kind w (s.values n) (start_at starts s n) cells (contents_at s n) f.2
    (held (container_at s n) f.0 f.1)
argument_holds starts s cells p w (Number z) held f = refl

args_stand : (starts : Starts) (s : ScriptState) (cells : Cells) (params : List Param) (widths : List ℕ) (args : List Arg)
    → AllHeld starts s cells → ArgsFit s params widths args
    → StandFor (binds_by starts s params widths args) cells (arguments_of s params args)
args_stand starts s cells [] [] [] held fit = record { count = refl; each = λ x b e. absurd (none_some e) }
args_stand starts s cells [] [] (a ∷ as_) held fit = absurd fit
args_stand starts s cells [] (w ∷ ws) args held fit = absurd fit
args_stand starts s cells (p ∷ ps) [] args held fit = absurd fit
args_stand starts s cells (p ∷ ps) (w ∷ ws) [] held fit = absurd fit
args_stand starts s cells (p ∷ ps) (w ∷ ws) (a ∷ as_) held fit =
    let rest = args_stand starts s cells ps ws as_ held fit.1 in
    record { count = ap suc rest.count; each = each rest }
  where
    each : StandFor (binds_by starts s ps ws as_) cells (arguments_of s ps as_) → (x : ℕ) (b : Bind)
        → slice_get (binds_by starts s (p ∷ ps) (w ∷ ws) (a ∷ as_)) x ≡ Some b → Holds cells b (argument (arguments_of s (p ∷ ps) (a ∷ as_)) x)
    each rest zero b e = subst (λ b. Holds cells b (argument_of s p a)) (some_is e) (argument_holds starts s cells p w a held fit.0)
    each rest (suc x) b e = rest.each x b e

pub arguments_stand : ArgumentsStand
arguments_stand starts s cells ps ws as_ defer held fit len = args_stand starts s cells ps ws as_ held (args_are s defer ps ws as_ fit len)

-- ---- what is left of one container

module _ (old new : Cells) (start : ℕ) where
  whole_array : (n : ℕ) (ys : List ℤ) → ys ≡ cell_list new start n → Elements ys ≡ Elements (cell_list new start (length ys))
  whole_array n ys e =
      let long : n ≡ length ys = sym (ap length e ∙ length-cell_list new start n) in
      ap Elements (e ∙ ap (cell_list new start) long)

  in_part : ℕ → ℕ → ℕ → Bool
  in_part from len w = Rattle.std.specs.Prelude.nat_le (start + from) w && Rattle.std.specs.Prelude.nat_lt w (start + from + len)

  -- the part's words from the new cells, all others from the old ones
  mixed : ℕ → ℕ → Cells
  unfolding in_part
  mixed from len w = if in_part from len w then new w else old w

  is_in : (from len w : ℕ) → start + from ≤ w → w < start + from + len → mixed from len w ≡ new w
  unfolding in_part mixed
  is_in from len w lo hi = grind arith

  is_out : (from len w : ℕ) → (w < start + from) ⊎ (start + from + len ≤ w) → mixed from len w ≡ old w
  unfolding in_part mixed
  is_out from len w (inl lt) = grind arith
  is_out from len w (inr ge) = grind arith

  abbrev pub OutsideOf : Bind → Contents → Type 0
  OutsideOf b c = (w : ℕ) → IsWordOf (bind_of start c) w → (IsWordOf b w → IsLength b w) → new w ≡ old w

  pub slice_left : (width from len : ℕ) (xs : List ℤ) (cnew : Contents) → from + len ≤ length xs
      → ArrayStandsFor (record { start = start; len = length xs }) old (Elements xs)
      → ArrayStandsFor (record { start = start + from; len = len }) new cnew
      → OutsideOf (Array (record { start = start + from; len = len }) width) (Elements xs)
      → Elements (take from xs ++ elements cnew ++ drop (from + len) xs) ≡ Elements (cell_list new start (length xs))
  slice_left width from len xs cnew le h hn out =
      let at : ArrayAt = record { start = start; len = length xs } in
      let m = mixed from len in
      let part : ArrayStandsFor (record { start = start + from; len = len }) m (Elements (elements cnew)) =
      array_decides.array (record { start = start + from; len = len }) new m (Elements (elements cnew)) (λ w lo hi. is_in from len w lo hi)
      (ap (λ c. Elements (elements c)) hn) in
      let all = (slice_is_part at from len le).writes old m (Elements xs) (elements cnew) h part (λ w o. is_out from len w o) in
      array_decides.array at m new _
      (λ w lo hi. ⊎_elim
      (λ lt. out w (record { from = lo; below = hi }) (λ u. let a = u.from in absurd (omega arith)) ∙ sym (is_out from len w (inl lt)))
      (λ ge. ⊎_elim
      (λ lt. sym (is_in from len w ge lt))
      (λ past. out w (record { from = lo; below = hi }) (λ u. let a = u.below in absurd (omega arith)) ∙ sym (is_out from len w (inr past)))
      (cases_lt w (start + from + len)))
      (cases_lt w (start + from)))
      all

  by_same : (cnew d : Contents) → cnew ≡ d → Holds new (bind_of start d) d → Holds new (bind_of start cnew) cnew
  by_same cnew d e h = subst (λ c. Holds new (bind_of start c) c) (sym e) h

  -- what a written argument leaves of its container
  pub left_holds : (kind : ParamKind) (width : ℕ) (v : Value) (c cnew : Contents) → FitsKind kind v c → Holds old (bind_of start c) c
      → Holds new (bind_as kind width v start c) cnew → OutsideOf (bind_as kind width v start c) c
      → Holds new (bind_of start (left_in kind v cnew c)) (left_in kind v cnew c)
  left_holds IntKind width v c cnew f h hn out = absurd f
  left_holds ArrayKind width Value.Dead c cnew f h hn out = absurd f
  left_holds ArrayKind width (Value.Whole n) (Elements xs) cnew f h hn out = whole_array (length xs) (elements cnew) (ap elements hn)
  left_holds ArrayKind width (Value.Whole n) (Single z) cnew f h hn out = absurd f
  left_holds ArrayKind width (Value.Whole n) (Items cap xs) cnew f h hn out = (hn.0, ap (λ c. Items cap (elements c)) hn.1, hn.2)
  left_holds ArrayKind width (Value.Whole n) (Pairs cap ps) cnew f h hn out = absurd f
  left_holds ArrayKind width (Value.Whole n) (Entries room es) cnew f h hn out = absurd f
  left_holds ArrayKind width (Value.Slice n from len) (Elements xs) cnew f h hn out =
      let e = slice_left width from len xs cnew f h hn out in
      whole_array (length xs) (take from xs ++ elements cnew ++ drop (from + len) xs) (ap elements e)
  left_holds ArrayKind width (Value.Slice n from len) (Single z) cnew f h hn out = absurd f
  left_holds ArrayKind width (Value.Slice n from len) (Items cap xs) cnew f h hn out = absurd f
  left_holds ArrayKind width (Value.Slice n from len) (Pairs cap ps) cnew f h hn out = absurd f
  left_holds ArrayKind width (Value.Slice n from len) (Entries room es) cnew f h hn out = absurd f
  left_holds ArrayKind width (Value.View n number) (Elements xs) cnew f h hn out = absurd f
  left_holds ArrayKind width (Value.View n number) (Single z) cnew f h hn out = absurd f
  left_holds ArrayKind width (Value.View n number) (Items cap xs) cnew f h hn out = (hn.0, ap (λ c. Items cap (elements c)) hn.1, hn.2)
  left_holds ArrayKind width (Value.View n number) (Pairs cap ps) cnew f h hn out = absurd f
  left_holds ArrayKind width (Value.View n number) (Entries room es) cnew f h hn out = absurd f
  left_holds ArrayKind width (Value.Handle jobs) c cnew f h hn out = absurd f
  left_holds ListKind width v (Elements xs) cnew f h hn out = cc
  left_holds ListKind width v (Single z) cnew f h hn out = cc
  left_holds ListKind width v (Items cap xs) cnew f h hn out = by_same cnew (Items cap hn.0) hn.1 (hn.0, refl, hn.2)
  left_holds ListKind width v (Pairs cap ps) cnew f h hn out = cc
  left_holds ListKind width v (Entries room es) cnew f h hn out = cc
  left_holds RefKind width v (Elements xs) cnew f h hn out = cc
  left_holds RefKind width v (Single z) cnew f h hn out = by_same cnew (Single (new start)) hn refl
  left_holds RefKind width v (Items cap xs) cnew f h hn out = cc
  left_holds RefKind width v (Pairs cap ps) cnew f h hn out = cc
  left_holds RefKind width v (Entries room es) cnew f h hn out = cc
  left_holds MapKind width v (Elements xs) cnew f h hn out = cc
  left_holds MapKind width v (Single z) cnew f h hn out = cc
  left_holds MapKind width v (Items cap xs) cnew f h hn out = cc
  left_holds MapKind width v (Pairs cap ps) cnew f h hn out = by_same cnew (Pairs cap hn.0) hn.1 (hn.0, refl, hn.2)
  left_holds MapKind width v (Entries room es) cnew f h hn out = cc
  left_holds StreamKind width v (Elements xs) cnew f h hn out = cc
  left_holds StreamKind width v (Single z) cnew f h hn out = cc
  left_holds StreamKind width v (Items cap xs) cnew f h hn out = cc
  left_holds StreamKind width v (Pairs cap ps) cnew f h hn out = cc
  left_holds StreamKind width v (Entries room es) cnew f h hn out =
      by_same cnew (Entries room hn.0) hn.1
      (hn.0, refl, subst (λ n. HoldsEntries (record { start = start; count = n; room = room }) new hn.0) (sym hn.2.number) hn.2)

-- ---- what is left of all containers

pick : (w b : Bool) (f K : ℕ → Contents) (x : Contents) (c : ℕ) → f c ≡ cond b x (K c) → (b && w) ≡ false → (cond w f K) c ≡ K c
pick true true f K x c e n = absurd (not_both refl n)
pick true false f K x c e n = e
pick false b f K x c e n = refl

if_false : (b d : Bool) → (b || d) ≡ false → (b ≡ false) × (d ≡ false)
if_false true d e = absurd (not_both refl e)
if_false false d e = (refl, e)

module _ (starts : Starts) (s : ScriptState) where
  -- the contents of containers, with what one argument leaves, and what all do
  abbrev pub leaves : Param → Arg → Contents → (ℕ → Contents) → ℕ → Contents
  leaves p (Name n) new K = if writes_to p.access then with_at K (container_at s n) (left_in p.kind (s.values n) new (K (container_at s n))) else K
  leaves p (Number z) new K = K

  abbrev pub all_leave : List Param → List Arg → List Contents → (ℕ → Contents) → ℕ → Contents
  all_leave [] args news K = K
  all_leave (p ∷ ps) [] news K = K
  all_leave (p ∷ ps) (a ∷ as_) [] K = K
  all_leave (p ∷ ps) (a ∷ as_) (new ∷ news) K = all_leave ps as_ news (leaves p a new K)

  abbrev pub holding : (ℕ → Contents) → ScriptState
  holding K = record s { contents = K }

  one_holds : (p : Param) (a : Arg) (new : Contents) (K : ℕ → Contents) → leave p a new (holding K) ≡ holding (leaves p a new K)
  one_holds p (Name n) new K = by (writes_to p.access)
    where
      by : (w : Bool) → (cond w (with_contents (container_at s n) (left_in p.kind (s.values n) new (K (container_at s n))) (holding K)) (holding K)) ≡ holding
          (cond w (with_at K (container_at s n) (left_in p.kind (s.values n) new (K (container_at s n)))) K)
      by true = refl
      by false = refl
  one_holds p (Number z) new K = refl

  pub all_hold : (ps : List Param) (as_ : List Arg) (news : List Contents) (K : ℕ → Contents)
      → leave_all ps as_ news (holding K) ≡ holding (all_leave ps as_ news K)
  all_hold [] args news K = refl
  all_hold (p ∷ ps) [] news K = refl
  all_hold (p ∷ ps) (a ∷ as_) [] K = refl
  all_hold (p ∷ ps) (a ∷ as_) (new ∷ news) K = ap (leave_all ps as_ news) (one_holds p a new K) ∙ all_hold ps as_ news (leaves p a new K)

  -- a container that an argument doesn't write
  leaves_other : (p : Param) (a : Arg) (new : Contents) (K : ℕ → Contents) (c : ℕ) → (is_of s a c && writes_to p.access) ≡ false → leaves p a new K c ≡ K c
  leaves_other p (Name n) new K c e = pick (writes_to p.access) (nat_eq c (container_at s n))
      (with_at K (container_at s n) (left_in p.kind (s.values n) new (K (container_at s n)))) K _ c refl e
  leaves_other p (Number z) new K c e = refl

  pub none_leaves : (ps : List Param) (as_ : List Arg) (news : List Contents) (K : ℕ → Contents) (c : ℕ) → is_written s ps as_ c ≡ false
      → all_leave ps as_ news K c ≡ K c
  none_leaves [] args news K c e = refl
  none_leaves (p ∷ ps) [] news K c e = refl
  none_leaves (p ∷ ps) (a ∷ as_) [] K c e = refl
  none_leaves (p ∷ ps) (a ∷ as_) (new ∷ news) K c e =
      let u = if_false (is_of s a c && writes_to p.access) (is_written s ps as_ c) e in
      none_leaves ps as_ news (leaves p a new K) c u.1 ∙ leaves_other p a new K c u.0

  no_writer : (ps : List Param) (as_ : List Arg) (c : ℕ) → is_given s ps as_ c ≡ false → is_written s ps as_ c ≡ false
  no_writer [] args c e = refl
  no_writer (p ∷ ps) [] c e = refl
  no_writer (p ∷ ps) (a ∷ as_) c e =
      let u = if_false (is_of s a c) (is_given s ps as_ c) e in
      ap (λ b. (b && writes_to p.access) || is_written s ps as_ c) u.0 ∙ no_writer ps as_ c u.1

  -- the container that an argument writes
  leaves_own : (p : Param) (n : ℕ) (new : Contents) (K : ℕ → Contents) → writes_to p.access ≡ true
      → leaves p (Name n) new K (container_at s n) ≡ left_in p.kind (s.values n) new (K (container_at s n))
  leaves_own p n new K e =
      ap (λ w. cond w (with_at K (container_at s n) (left_in p.kind (s.values n) new (K (container_at s n)))) K (container_at s n)) e
      ∙ ap (λ b. cond b (left_in p.kind (s.values n) new (K (container_at s n))) (K (container_at s n))) (eq-eqb (container_at s n) (container_at s n) refl)

  module _ (old new : Cells) (c : ℕ) (below : c < s.made) (alive : s.alive c ≡ true) (was : Holds old (bind_of_container starts s c) (s.contents c)) where
    abbrev Outside : Bind → Type 0
    Outside b = (w : ℕ) → IsWordOf (bind_of_container starts s c) w → (IsWordOf b w → IsLength b w) → new w ≡ old w

    -- what each argument that writes it makes of it
    abbrev Left : List Param → List ℕ → List Arg → List Contents → Type 0
    Left (p ∷ ps) (w ∷ ws) (a ∷ as_) (it ∷ news) =
        (Holds new (bind_by starts s p w a) it × (is_of s a c ≡ true → Outside (bind_by starts s p w a))) × Left ps ws as_ news
    Left _ _ _ _ = Unit {0}

    abbrev Kept : (ℕ → Contents) → Type 0
    Kept K = Holds new (bind_of (starts (s.range c)) (K c)) (K c)

    one_left : (p : Param) (w : ℕ) (a : Arg) (it : Contents) (K : ℕ → Contents) → ArgFits s p a → is_of s a c ≡ true → writes_to p.access ≡ true
        → K c ≡ s.contents c
        → Holds new (bind_by starts s p w a) it → Outside (bind_by starts s p w a) → Kept (leaves p a it K)
    one_left p w (Name n) it K fit of writes same h out =
        let here : c ≡ container_at s n = eqb-true c (container_at s n) of in
        let made : leaves p (Name n) it K c ≡ left_in p.kind (s.values n) it (contents_at s n) =
        ap (leaves p (Name n) it K) here ∙ leaves_own p n it K writes ∙ ap (left_in p.kind (s.values n) it) (ap K (sym here) ∙ same ∙ ap s.contents here) in
        let held : Holds new (bind_of (start_at starts s n) (left_in p.kind (s.values n) it (contents_at s n)))
        (left_in p.kind (s.values n) it (contents_at s n)) =
        left_holds old new (start_at starts s n) p.kind w (s.values n) (contents_at s n) it fit.2
        (subst (λ d. Holds old (bind_of_container starts s d) (s.contents d)) here was) h
        (λ u is. out u (subst (λ d. IsWordOf (bind_of_container starts s d) u) (sym here) is)) in
        subst (λ x. Holds new (bind_of (starts (s.range c)) x) x) (sym made)
        (subst (λ d. Holds new (bind_of (starts (s.range d)) (left_in p.kind (s.values n) it (contents_at s n)))
        (left_in p.kind (s.values n) it (contents_at s n))) (sym here) held)
    one_left p w (Number z) it K fit of writes same h out = absurd (not_both of refl)

    written_left : (ps : List Param) (ws : List ℕ) (as_ : List Arg) (news : List Contents) (K : ℕ → Contents) → ArgsFit s ps ws as_ → AreUnshared s ps as_
        → K c ≡ s.contents c
        → is_written s ps as_ c ≡ true → length news ≡ length as_ → Left ps ws as_ news → Kept (all_leave ps as_ news K)
    written_left [] ws args news K fit un same some len left = absurd (not_both some refl)
    written_left (p ∷ ps) [] [] news K fit un same some len left = absurd (not_both some refl)
    written_left (p ∷ ps) [] (a ∷ as_) news K fit un same some len left = absurd fit
    written_left (p ∷ ps) (w ∷ ws) [] news K fit un same some len left = absurd (not_both some refl)
    written_left (p ∷ ps) (w ∷ ws) (a ∷ as_) [] K fit un same some len left = absurd (omega arith)
    written_left (p ∷ ps) (w ∷ ws) (a ∷ as_) (it ∷ news) K fit un same some len left =
        by (λ none. written_left ps ws as_ news (leaves p a it K) fit.1 un.1 (leaves_other p a it K c none ∙ same)
        (sym (ap (λ b. b || is_written s ps as_ c) none) ∙ some) (omega arith) left.1)
        (is_of s a c) (writes_to p.access) refl refl
      where
        here : is_of s a c ≡ true → writes_to p.access ≡ true → Kept (all_leave ps as_ news (leaves p a it K))
        here of writes =
            let none = no_writer ps as_ c (un.0.written c of writes) in
            subst (λ x. Holds new (bind_of (starts (s.range c)) x) x) (sym (none_leaves ps as_ news (leaves p a it K) c none))
            (one_left p w a it K fit.0 of writes same left.0.0 (left.0.1 of))

        by : ((is_of s a c && writes_to p.access) ≡ false → Kept (all_leave ps as_ news (leaves p a it K))) → (b w : Bool) → is_of s a c ≡ b
            → writes_to p.access ≡ w → Kept (all_leave ps as_ news (leaves p a it K))
        by there true true e f = here e f
        by there true false e f = there (λ i. e i && f i)
        by there false w e f = there (ap (λ b. b && writes_to p.access) e)

    unwritten_left : (ps : List Param) (as_ : List Arg) (news : List Contents) → is_written s ps as_ c ≡ false
        → ((w : ℕ) → IsWordOf (bind_of_container starts s c) w → new w ≡ old w) → Kept (all_leave ps as_ news s.contents)
    unwritten_left ps as_ news none same =
        subst (λ x. Holds new (bind_of (starts (s.range c)) x) x) (sym (none_leaves ps as_ news s.contents c none))
        (still (bind_of_container starts s c) old new (s.contents c) was same)

  -- the facts of a job, argument by argument
  lefts : (old new : Cells) (c : ℕ) (below : c < s.made) (alive : s.alive c ≡ true) (was : Holds old (bind_of_container starts s c) (s.contents c))
      → (ps : List Param) (ws : List ℕ) (as_ : List Arg) (news : List Contents) → length news ≡ length (binds_by starts s ps ws as_)
      → ((x : ℕ) (b : Bind) → slice_get (binds_by starts s ps ws as_) x ≡ Some b → Holds new b (argument news x))
      → ((w x : ℕ) (p : Param) (n : ℕ) (b : Bind) → slice_get ps x ≡ Some p → slice_get as_ x ≡ Some (Name n) → container_at s n ≡ c
      → slice_get (binds_by starts s ps ws as_) x ≡ Some b
      → IsWordOf (bind_of_container starts s c) w → (IsWordOf b w → IsLength b w) → new w ≡ old w)
      → Left old new c below alive was ps ws as_ news
  lefts old new c below alive was [] ws as_ news len each out = tt
  lefts old new c below alive was (p ∷ ps) [] as_ news len each out = tt
  lefts old new c below alive was (p ∷ ps) (w ∷ ws) [] news len each out = tt
  lefts old new c below alive was (p ∷ ps) (w ∷ ws) (a ∷ as_) [] len each out = tt
  lefts old new c below alive was (p ∷ ps) (w ∷ ws) (a ∷ as_) (it ∷ news) len each out = (
    (each 0 (bind_by starts s p w a) refl, named a out),
    lefts old new c below alive was ps ws as_ news (omega arith) (λ x b e. each (suc x) b e) (λ u x q n b f g h k is o. out u (suc x) q n b f g h k is o),
  )
    where
      named : (a : Arg) → ((u x : ℕ) (q : Param) (n : ℕ) (b : Bind) → slice_get (p ∷ ps) x ≡ Some q → slice_get (a ∷ as_) x ≡ Some (Name n)
          → container_at s n ≡ c → slice_get (binds_by starts s (p ∷ ps) (w ∷ ws) (a ∷ as_)) x ≡ Some b
          → IsWordOf (bind_of_container starts s c) u → (IsWordOf b u → IsLength b u) → new u ≡ old u)
          → is_of s a c ≡ true → Outside old new c below alive was (bind_by starts s p w a)
      named (Name n) out of u is o = out u 0 p n (bind_by starts s p w (Name n)) refl refl (sym (eqb-true c (container_at s n) of)) refl is o
      named (Number z) out of u is o = absurd (not_both of refl)

length_args : (starts : Starts) (s : ScriptState) (ps : List Param) (ws : List ℕ) (as_ : List Arg) → ArgsFit s ps ws as_
    → length (binds_by starts s ps ws as_) ≡ length as_
length_args starts s [] [] [] fit = refl
length_args starts s [] [] (a ∷ as_) fit = absurd fit
length_args starts s [] (w ∷ ws) args fit = absurd fit
length_args starts s (p ∷ ps) [] args fit = absurd fit
length_args starts s (p ∷ ps) (w ∷ ws) [] fit = absurd fit
length_args starts s (p ∷ ps) (w ∷ ws) (a ∷ as_) fit = ap suc (length_args starts s ps ws as_ fit.1)

args_left : (starts : Starts) (s : ScriptState) (params : List Param) (widths : List ℕ) (args : List Arg) (old new : Cells) (news : List Contents)
    → AllHeld starts s old → ArgsFit s params widths args → AreUnshared s params args
    → JobLeaves starts s params widths args old new news → AllHeld starts (leave_all params args news s) new
args_left starts s ps ws as_ old new news held fit un job =
    subst (λ t. AllHeld starts t new) (sym (all_hold starts s ps as_ news s.contents)) (λ c below alive. by c below alive (is_written s ps as_ c) refl)
  where
    by : (c : ℕ) (below : c < s.made) (alive : s.alive c ≡ true) (b : Bool) → is_written s ps as_ c ≡ b
        → Holds new (bind_of (starts (s.range c)) (all_leave starts s ps as_ news s.contents c)) (all_leave starts s ps as_ news s.contents c)
    by c below alive true e =
        written_left starts s old new c below alive (held c below alive) ps ws as_ news s.contents fit un refl e
        (job.stand.count ∙ length_args starts s ps ws as_ fit)
        (lefts starts s old new c below alive (held c below alive) ps ws as_ news job.stand.count job.stand.each
        (λ w x p n b f g h k is o. job.outside c w x p n b f g h k is o))
    by c below alive false e = unwritten_left starts s old new c below alive (held c below alive) ps as_ news e (λ w is. job.same c w below alive is e)

pub left_contents_are_held : LeftContentsAreHeld
left_contents_are_held starts s ps ws as_ defer old new news held fit len un job =
    args_left starts s ps ws as_ old new news held (args_are s defer ps ws as_ fit len) un job
