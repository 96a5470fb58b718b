-- The word in which a list keeps its length, as a job with `defer` uses it.
use Rattle.std.proofs.Common.{◌≡◌, ℕ, zero, suc, ◌+◌, ◌<◌, ◌≤◌, ◌^◌, Bool, true, false, ◌&&◌, ◌||◌, not, eqb-true, eq-eqb, pos, List, [], ◌∷◌, ◌++◌, length, Some, None, refl, sym, ap, subst, ◌∙◌, arith, append-nil}
use Rattle.std.specs.Prelude.{slice_get, nat_eq}
use Rattle.std.specs.List.{list_any}
use Rattle.std.proofs.lemmas.List.{append_assoc}
use Rattle.frame_ast.specs.declared.kernel.ParamKind.{ParamKind}
use Rattle.frame_ast.specs.declared.kernel.ParamKind.TheVariants.{Int as IntKind, Array as ArrayKind, List as ListKind, Ref as RefKind, Map as MapKind, Stream as StreamKind}
use Rattle.frame_ast.specs.declared.kernel.Kernel.{Kernel}
use Rattle.frame_ast.specs.declared.kernel.Param.{Param}
use Rattle.frame_ast.specs.declared.name_kind.NameKind.TheVariants as kind
use Rattle.frame_ast.specs.declared.script.Arg.{Arg}
use Rattle.frame_ast.specs.declared.script.Arg.TheVariants.{Name, Number}
use Rattle.frame_ast.specs.Arguments.{length_of}
use Rattle.frame_ast.specs.Contents.{Contents, Cells as Elements, Single, Items, Pairs, Entries, elements}
use Rattle.frame_ast.specs.Fitting as fit
use Rattle.frame_ast.specs.Fitting.{AreUnshared, NameFits}
use Rattle.frame_ast.specs.Kinds.{kind_of}
use Rattle.frame_ast.specs.Schedules.{Given, need_of, writes_to, is_array, given_args, givens, alias, first_alias}
use Rattle.frame_ast.specs.States.{ScriptState, Value, container_of, container_at, contents_at}
use Rattle.frame_ast.proofs.Scheduled.{by_name, no_alias}
use Rattle.kernel_exec.specs.declared.binds.Bind.{Bind}
use Rattle.kernel_exec.specs.Binds.{IsWordOf}
use Rattle.kernel_exec.specs.Footprint.{IsLength, IsWritten}
use Rattle.kernel_exec.specs.Layout.{Holds}
use Rattle.kernel_exec.proofs.Rights.{uses_word}
use Rattle.merge_laws.specs.Graph.{Cells}
use Rattle.frame_core.proofs.Small.{some_is, none_some, or_false_left, or_false_right}
use Rattle.plan_laws.specs.Accepting.{Schedule, argument_binds}
use Rattle.plan_laws.specs.Binds.{bind_of, bind_as, bind_by, array_for, start_at}
use Rattle.plan_laws.specs.Drafts.{Draft, cells_of}
use Rattle.plan_laws.specs.Planned.{Outline, jobs_before, IsPlanned}
use Rattle.plan_laws.proofs.Schedules.AtHand as at_hand
use Rattle.plan_laws.proofs.Schedules.AtHand.{IsAtHand}
use Rattle.plan_laws.proofs.Schedules.LeftWords.{argument_word}
use Rattle.plan_laws.proofs.Statements.Making.{alive_is_live}
use Rattle.plan_laws.proofs.Owners.{words_apart, word_has}
use Rattle.defer_laws.specs.Deferring.{capacity_of}
use Rattle.plan_laws.proofs.Schedules.LeftWords.{written_use, no_length}

-- ---- a list

whole_is_list : (s : ScriptState) (v : Value) → fit.IsWhole s kind.List v → kind_of (s.contents (container_of v)) ≡ kind.List
whole_is_list s Value.Dead f = absurd f
whole_is_list s (Value.Whole c) f = f
whole_is_list s (Value.Slice c from len) f = absurd f
whole_is_list s (Value.View c number) f = absurd f
whole_is_list s (Value.Handle jobs) f = absurd f

-- its first word is its length, which is within its capacity
list_held : (cells : Cells) (start : ℕ) (c : Contents) → kind_of c ≡ kind.List → Holds cells (bind_of start c) c
    → (cells start ≡ pos (length_of c)) × (length_of c ≤ capacity_of c)
list_held cells start (Elements xs) e h = absurd cc
list_held cells start (Single z) e h = absurd cc
list_held cells start (Items cap xs) e h =
    let same : xs ≡ h.0 = ap elements h.1 in
    let long = ap length same in
    let le = h.2.within in
    (h.2.count ∙ ap (λ ys. pos (length ys)) (sym same), omega arith)
list_held cells start (Pairs cap ps) e h = absurd cc
list_held cells start (Entries room es) e h = absurd cc

list_word : (start : ℕ) (c : Contents) → kind_of c ≡ kind.List → IsWordOf (bind_of start c) start
list_word start (Elements xs) e = absurd cc
list_word start (Single z) e = absurd cc
list_word start (Items cap xs) e = record { from = omega arith; below = omega arith }
list_word start (Pairs cap ps) e = absurd cc
list_word start (Entries room es) e = absurd cc

-- given as an array, it is a view with that length
view_length : (s : ScriptState) (width start : ℕ) (v : Value) (c : Contents) → fit.IsWhole s kind.List v → kind_of c ≡ kind.List
    → IsLength (array_for width v start c) start
view_length s width start Value.Dead c f e = absurd f
view_length s width start (Value.Whole n) (Elements xs) f e = absurd cc
view_length s width start (Value.Whole n) (Single z) f e = absurd cc
view_length s width start (Value.Whole n) (Items cap xs) f e = refl
view_length s width start (Value.Whole n) (Pairs cap ps) f e = absurd cc
view_length s width start (Value.Whole n) (Entries room es) f e = absurd cc
view_length s width start (Value.Slice n from len) c f e = absurd f
view_length s width start (Value.View n number) c f e = absurd f
view_length s width start (Value.Handle jobs) c f e = absurd f

-- ---- no argument is an alias of it

no_alias_before : (before gs : List Given) (x : Given) → first_alias before (gs ++ x ∷ []) ≡ None → list_any (λ a. alias a x) (before ++ gs) ≡ false
no_alias_before before [] x h = ap (list_any (λ a. alias a x)) (append-nil before) ∙ (no_alias before x [] h).0
no_alias_before before (g ∷ more) x h =
    ap (list_any (λ a. alias a x)) (sym (append_assoc before (g ∷ []) more))
    ∙ no_alias_before (before ++ g ∷ []) more x (no_alias before g (more ++ x ∷ []) h).1

module _ (s : ScriptState) (test : Given → Bool) where
  fails_at : (ps : List Param) (as_ : List Arg) (y n : ℕ) (p : Param) → list_any test (given_args s ps as_) ≡ false → slice_get ps y ≡ Some p
      → slice_get as_ y ≡ Some (Name n) → test (by_name s p n) ≡ false
  fails_at [] as_ y n p h hp ha = absurd (none_some hp)
  fails_at (q ∷ ps) [] y n p h hp ha = absurd (none_some ha)
  fails_at (q ∷ ps) (Name m ∷ as_) zero n p h hp ha =
      let same : m ≡ n = cc in
      let is : q ≡ p = some_is hp in
      (λ i. test (by_name s (sym is i) (sym same i))) ∙ or_false_left (test (by_name s q m)) (list_any test (given_args s ps as_)) h
  fails_at (q ∷ ps) (Number z ∷ as_) zero n p h hp ha = absurd cc
  fails_at (q ∷ ps) (Name m ∷ as_) (suc y) n p h hp ha = fails_at ps as_ y n p
      (or_false_right (test (by_name s q m)) (list_any test (given_args s ps as_)) h) hp ha
  fails_at (q ∷ ps) (Number z ∷ as_) (suc y) n p h hp ha = fails_at ps as_ y n p h hp ha

-- what is written of the list's container is the list itself, given as an array
same_list : (same writes array named : Bool) → same ≡ true → writes ≡ true → ((same && (writes || false)) && not (true && (array && named))) ≡ false
    → (array ≡ true) × (named ≡ true)
same_list true true true true e w h = (refl, refl)
same_list true true true false e w h = absurd cc
same_list true true false named e w h = absurd cc
same_list true false array named e w h = absurd cc
same_list false writes array named e w h = absurd cc

is_array_kind : (k : ParamKind) → is_array k ≡ true → k ≡ ArrayKind
is_array_kind IntKind e = absurd cc
is_array_kind ArrayKind e = refl
is_array_kind ListKind e = absurd cc
is_array_kind RefKind e = absurd cc
is_array_kind MapKind e = absurd cc
is_array_kind StreamKind e = absurd cc

-- a schedule that has the length of the list
module _ (x : Outline) (s : ScriptState) (o : Schedule) (defer : ℕ × ℕ) (k : Kernel) (d : Draft)
    (is : IsAtHand x s (record o { defer = Some defer }) d (Some k)) where
  abbrev deferred : Schedule
  deferred = record o { defer = Some defer }

  abbrev c : ℕ
  c = container_at s defer.0

  abbrev pub start : ℕ
  start = start_at x.starts s defer.0

  is_list : kind_of (contents_at s defer.0) ≡ kind.List
  is_list = whole_is_list s (s.values defer.0) is.list_fits.value

  pub is_held : (cells_of x.plan d start ≡ pos (length_of (contents_at s defer.0))) × (length_of (contents_at s defer.0) ≤ capacity_of (contents_at s defer.0))
  is_held = list_held (cells_of x.plan d) start (contents_at s defer.0) is_list (is.was.standing.contents c is.list_fits.made is.list_fits.alive)

  pub length_word : IsWordOf (bind_of start (contents_at s defer.0)) start
  length_word = list_word start (contents_at s defer.0) is_list

  pub length_within : start + 1 ≤ x.plan.cells
  length_within =
      let le = is.was.standing.within c (alive_is_live s c is.list_fits.made is.list_fits.alive) in
      let lt = length_word.below in
      omega arith

  abbrev length_given : Given
  length_given = record { need = need_of s defer.0 false; kind = ListKind; is_length = true }

  -- an argument that is written has the length word as the length of a view alone
  pub length_only : (y : ℕ) (p : Param) (b : Bind) → slice_get k.params.items y ≡ Some p → writes_to p.access ≡ true
      → slice_get (argument_binds x.starts s o k) y ≡ Some b → IsWordOf b start → IsLength b start
  length_only y p b hp writes hb word =
      let r = at_hand.bind_here x s deferred k d is y b hb in
      let a = argument_word x.starts s k.params.items _ o.args y start b (at_hand.all_fit x s deferred k d is) hb word in
      let same : container_at s a.name ≡ c = words_apart x.plan x.starts (jobs_before x) (length d.jobs) s is.was.ordered.ledger (container_at s a.name) c start
      (alive_is_live s (container_at s a.name) a.below a.alive) (alive_is_live s c is.list_fits.made is.list_fits.alive)
      (word_has x.starts s (container_at s a.name) start a.word) (word_has x.starts s c start length_word) in
      let apart = fails_at s (λ g. alias g length_given) k.params.items o.args y a.name p
      (no_alias_before [] (given_args s k.params.items o.args) length_given (at_hand.no_alias x s deferred k d is)) hp a.has in
      let both = same_list (nat_eq (container_at s a.name) c) (writes_to p.access) (is_array p.kind) (nat_eq a.name defer.0)
      (eq-eqb (container_at s a.name) c same) writes apart in
      let arg_is : r.arg ≡ Name defer.0 = some_is (sym r.has_arg ∙ a.has) ∙ ap Name (eqb-true a.name defer.0 both.1) in
      let kind_is : r.param.kind ≡ ArrayKind = ap (λ (q : Param). q.kind) (some_is (sym r.has_param ∙ hp)) ∙ is_array_kind p.kind both.0 in
      subst (λ b. IsLength b start) r.is
      (subst (λ a. IsLength (bind_by x.starts s r.param r.width a) start) (sym arg_is)
      (subst (λ q. IsLength (bind_as q r.width (s.values defer.0) start (contents_at s defer.0)) start) (sym kind_is)
      (view_length s r.width start (s.values defer.0) (contents_at s defer.0) is.list_fits.value is_list)))

  -- so the old kernel doesn't write it
  pub length_unwritten : (from to : ℕ) → IsWritten k.params.items (argument_binds x.starts s o k) from to start → ⊥
  length_unwritten from to u =
      let v = written_use u.param u.bind from to start u.writes in
      no_length u.bind from to start v.1 (length_only u.number u.param u.bind u.has_param v.0 u.has_bind (uses_word u.bind from to start v.1))
