-- What a job's words are afterwards.
use Rattle.std.proofs.Common.{◌||◌, ◌≡◌, ℕ, zero, suc, ◌+◌, ◌<◌, Bool, true, false, eq-eqb, ◌&&◌, List, [], ◌∷◌, length, Option, Some, refl, sym, ap, subst, ◌∙◌, arith}
use Rattle.std.specs.Prelude.{slice_get}
use Rattle.frame_ast.specs.declared.kernel.Kernel.{Kernel}
use Rattle.frame_ast.specs.declared.kernel.Param.{Param}
use Rattle.frame_ast.specs.declared.kernel.ParamKind.{ParamKind}
use Rattle.frame_ast.specs.declared.kernel.ParamKind.TheVariants.{Int as IntKind, Array as ArrayKind, List as ListKind, Ref as RefKind, Map as MapKind, Stream as StreamKind}
use Rattle.frame_ast.specs.declared.script.Arg.{Arg}
use Rattle.frame_ast.specs.declared.script.Arg.TheVariants.{Name, Number}
use Rattle.job_base.specs.declared.Access.{Access}
use Rattle.job_base.specs.declared.Access.TheVariants.{Read, Write, Both}
use Rattle.frame_ast.specs.Checked.{IsChecked, is_read}
use Rattle.frame_ast.specs.Arguments.{argument}
use Rattle.frame_ast.specs.Contents.{Contents, Cells as Elements, Single, Items, Pairs, Entries}
use Rattle.frame_ast.specs.Ranges.{Starts}
use Rattle.frame_ast.specs.Schedules.{writes_to, arguments_of}
use Rattle.frame_ast.specs.States.{ScriptState, Value, container_at, contents_at}
use Rattle.kernel_exec.specs.declared.binds.Bind.{Bind}
use Rattle.kernel_exec.specs.declared.binds.Bind.TheVariants.{Int, Array, View, List as WholeList, Ref, Map, Stream}
use Rattle.kernel_exec.specs.Binds.{IsWordOf, widths}
use Rattle.kernel_exec.specs.Conditions.{BindsFit}
use Rattle.kernel_exec.specs.Footprint.{Uses, IsLength, Writes, WritesBy, IsWritten}
use Rattle.kernel_exec.specs.Laws.{at_indexes}
use Rattle.kernel_exec.proofs.Rights.{uses_word}
use Rattle.kernel_exec.proofs.Stand.{still}
use Rattle.kernel_exec.proofs.Pieces.{only_written_words_change}
use Rattle.merge_laws.specs.Graph.{Cells}
use Rattle.frame_core.proofs.Small.{not_both, some_is, none_some}
use Rattle.plan_laws.specs.Binds.{bind_of, bind_as, bind_of_container, start_at, binds_by}
use Rattle.frame_ast.specs.Fitting as fit
use Rattle.frame_ast.specs.Fitting.{is_of, is_given, is_written, AreUnshared}
use Rattle.plan_laws.specs.Leaving.{AllHeld, JobLeaves}
use Rattle.plan_laws.proofs.Schedules.Fitting.{FitsKind, ArgFits, ArgsFit, args_are}
use Rattle.plan_laws.specs.LeftWords.{AreApartBelow, JobsLeave}
use Rattle.plan_laws.specs.Running.{on_contents}
use Rattle.plan_laws.proofs.Schedules.Leaving.{arguments_stand}
use Rattle.plan_laws.proofs.Schedules.Running.{words_run_as_contents}

-- a word of what is given is a word of the container
pub given_word : (kind : ParamKind) (width : ℕ) (v : Value) (start : ℕ) (c : Contents) (w : ℕ) → FitsKind kind v c → IsWordOf (bind_as kind width v start c) w
    → IsWordOf (bind_of start c) w
given_word IntKind width v start c w f u = absurd f
given_word ArrayKind width Value.Dead start c w f u = absurd f
given_word ArrayKind width (Value.Whole n) start (Elements xs) w f u = record { from = u.from; below = u.below }
given_word ArrayKind width (Value.Whole n) start (Single z) w f u = absurd f
given_word ArrayKind width (Value.Whole n) start (Items cap xs) w f u = record { from = u.from; below = u.below }
given_word ArrayKind width (Value.Whole n) start (Pairs cap ps) w f u = absurd f
given_word ArrayKind width (Value.Whole n) start (Entries room es) w f u = absurd f
given_word ArrayKind width (Value.Slice n from len) start (Elements xs) w f u = let lo = u.from in let hi = u.below in
    record { from = omega arith; below = omega arith }
given_word ArrayKind width (Value.Slice n from len) start (Single z) w f u = absurd f
given_word ArrayKind width (Value.Slice n from len) start (Items cap xs) w f u = absurd f
given_word ArrayKind width (Value.Slice n from len) start (Pairs cap ps) w f u = absurd f
given_word ArrayKind width (Value.Slice n from len) start (Entries room es) w f u = absurd f
given_word ArrayKind width (Value.View n number) start (Elements xs) w f u = absurd f
given_word ArrayKind width (Value.View n number) start (Single z) w f u = absurd f
given_word ArrayKind width (Value.View n number) start (Items cap xs) w f u = record { from = u.from; below = u.below }
given_word ArrayKind width (Value.View n number) start (Pairs cap ps) w f u = absurd f
given_word ArrayKind width (Value.View n number) start (Entries room es) w f u = absurd f
given_word ArrayKind width (Value.Handle jobs) start c w f u = absurd f
given_word ListKind width v start c w f u = u
given_word RefKind width v start c w f u = u
given_word MapKind width v start c w f u = u
given_word StreamKind width v start (Elements xs) w f u = u
given_word StreamKind width v start (Single z) w f u = u
given_word StreamKind width v start (Items cap xs) w f u = u
given_word StreamKind width v start (Pairs cap ps) w f u = u
given_word StreamKind width v start (Entries room es) w f u = record { from = u.from; below = u.below }

-- the container of an argument that has a word
pub record IsArgument (starts : Starts) (s : ScriptState) (args : List Arg) (x w : ℕ) : Type 0 where
  pub name : ℕ
  pub has : slice_get args x ≡ Some (Name name)
  pub below : container_at s name < s.made
  pub alive : s.alive (container_at s name) ≡ true
  pub word : IsWordOf (bind_of_container starts s (container_at s name)) w

pub argument_word : (starts : Starts) (s : ScriptState) (ps : List Param) (ws : List ℕ) (as_ : List Arg) (x w : ℕ) (b : Bind) → ArgsFit s ps ws as_
    → slice_get (binds_by starts s ps ws as_) x ≡ Some b → IsWordOf b w → IsArgument starts s as_ x w
argument_word starts s [] ws as_ x w b fit h u = absurd (none_some h)
argument_word starts s (p ∷ ps) [] as_ x w b fit h u = absurd (none_some h)
argument_word starts s (p ∷ ps) (q ∷ ws) [] x w b fit h u = absurd (none_some h)
argument_word starts s (p ∷ ps) (q ∷ ws) (Name n ∷ as_) zero w b fit h u =
    record {
      name = n;
      has = refl;
      below = fit.0.0;
      alive = fit.0.1;
      word = given_word p.kind q (s.values n) (start_at starts s n) (contents_at s n) w fit.0.2 (subst (λ b. IsWordOf b w) (sym (some_is h)) u);
    }
argument_word starts s (p ∷ ps) (q ∷ ws) (Number z ∷ as_) zero w b fit h u = let v = subst (λ b. IsWordOf b w) (sym (some_is h)) u in let lt = v.below in
    absurd (omega arith)
argument_word starts s (p ∷ ps) (q ∷ ws) (a ∷ as_) (suc x) w b fit h u = let r = argument_word starts s ps ws as_ x w b fit.1 h u in
    record { name = r.name; has = r.has; below = r.below; alive = r.alive; word = r.word }

-- arguments by their number
named_of : (s : ScriptState) (n c : ℕ) → container_at s n ≡ c → is_of s (Name n) c ≡ true
named_of s n c e = eq-eqb c (container_at s n) (sym e)

pub any_by : (s : ScriptState) (ps : List Param) (as_ : List Arg) (x n c : ℕ) (p : Param) → slice_get ps x ≡ Some p → slice_get as_ x ≡ Some (Name n)
    → container_at s n ≡ c → is_given s ps as_ c ≡ true
any_by s [] as_ x n c p hp h e = absurd (none_some hp)
any_by s (q ∷ ps) [] x n c p hp h e = absurd (none_some h)
any_by s (q ∷ ps) (a ∷ as_) zero n c p hp h e = ap (λ b. b || is_given s ps as_ c) (subst (λ a. is_of s a c ≡ true) (sym (some_is h)) (named_of s n c e))
any_by s (q ∷ ps) (a ∷ as_) (suc x) n c p hp h e = by (is_of s a c) (any_by s ps as_ x n c p hp h e)
  where
    by : (b : Bool) → is_given s ps as_ c ≡ true → (b || is_given s ps as_ c) ≡ true
    by true f = refl
    by false f = f

pub writes_by : (s : ScriptState) (ps : List Param) (as_ : List Arg) (x n c : ℕ) (p : Param) → slice_get ps x ≡ Some p → slice_get as_ x ≡ Some (Name n)
    → container_at s n ≡ c → writes_to p.access ≡ true → is_written s ps as_ c ≡ true
writes_by s [] as_ x n c p hp h e w = absurd (none_some hp)
writes_by s (q ∷ ps) [] x n c p hp h e w = absurd (none_some h)
writes_by s (q ∷ ps) (a ∷ as_) zero n c p hp h e w =
    let of : is_of s a c ≡ true = subst (λ a. is_of s a c ≡ true) (sym (some_is h)) (named_of s n c e) in
    let wr : writes_to q.access ≡ true = subst (λ (q : Param). writes_to q.access ≡ true) (sym (some_is hp)) w in
    λ i. (of i && wr i) || is_written s ps as_ c
writes_by s (q ∷ ps) (a ∷ as_) (suc x) n c p hp h e w = by (is_of s a c && writes_to q.access) (writes_by s ps as_ x n c p hp h e w)
  where
    by : (b : Bool) → is_written s ps as_ c ≡ true → (b || is_written s ps as_ c) ≡ true
    by true f = refl
    by false f = f

-- who writes a container is its only argument
pub only_one : (s : ScriptState) (ps : List Param) (as_ : List Arg) (x y n m c : ℕ) (r p : Param) → AreUnshared s ps as_ → slice_get ps x ≡ Some r
    → slice_get ps y ≡ Some p → writes_to p.access ≡ true
    → slice_get as_ x ≡ Some (Name n) → slice_get as_ y ≡ Some (Name m) → container_at s n ≡ c → container_at s m ≡ c → x ≡ y
only_one s [] as_ x y n m c r p un hr hp w hx hy ex ey = absurd (none_some hp)
only_one s (q ∷ ps) [] x y n m c r p un hr hp w hx hy ex ey = absurd (none_some hx)
only_one s (q ∷ ps) (a ∷ as_) zero zero n m c r p un hr hp w hx hy ex ey = refl
only_one s (q ∷ ps) (a ∷ as_) zero (suc y) n m c r p un hr hp w hx hy ex ey =
    absurd (not_both (writes_by s ps as_ y m c p hp hy ey w) (un.0.read c (subst (λ a. is_of s a c ≡ true) (sym (some_is hx)) (named_of s n c ex))))
only_one s (q ∷ ps) (a ∷ as_) (suc x) zero n m c r p un hr hp w hx hy ex ey =
    absurd (not_both (any_by s ps as_ x n c r hr hx ex)
    (un.0.written c (subst (λ a. is_of s a c ≡ true) (sym (some_is hy)) (named_of s m c ey))
    (subst (λ (q : Param). writes_to q.access ≡ true) (sym (some_is hp)) w)))
only_one s (q ∷ ps) (a ∷ as_) (suc x) (suc y) n m c r p un hr hp w hx hy ex ey = ap suc (only_one s ps as_ x y n m c r p un.1 hr hp w hx hy ex ey)

pub writes_if : (a : Access) → is_read a ≡ false → writes_to a ≡ true
writes_if Read e = sym e
writes_if Write e = refl
writes_if Both e = refl

-- what is written is used through a bind that may be written
pub written_use : (p : Param) (b : Bind) (from to w : ℕ) → Writes p.access b from to w → (writes_to p.access ≡ true) × Uses b from to w
written_use p b from to w u = by (is_read p.access) refl u
  where
    by : (r : Bool) → is_read p.access ≡ r → WritesBy r b from to w → (writes_to p.access ≡ true) × Uses b from to w
    by true e u = absurd u
    by false e u = (writes_if p.access e, u)

-- a length isn't used
pub no_length : (b : Bind) (from to w : ℕ) → Uses b from to w → IsLength b w → ⊥
no_length (Int z) from to w u l = l
no_length (Array at own) from to w u l = l
no_length (View at own) from to w u l = let is = u.is in omega arith
no_length (WholeList at) from to w u l = l
no_length (Ref at) from to w u l = l
no_length (Map at) from to w u l = l
no_length (Stream at own) from to w u l = l

module _ (starts : Starts) (s : ScriptState) (kernel : Kernel) (ws : List ℕ) (args : List Arg) (defer : Option (ℕ × ℕ)) (steps n limit : ℕ) (old new : Cells)
    (checked : IsChecked kernel)
    (binds_fit : BindsFit kernel (binds_by starts s kernel.params.items ws args)) (args_are_fit : fit.ArgsFit s defer kernel.params.items args)
    (len : length ws ≡ length kernel.params.items) (un : AreUnshared s kernel.params.items args)
    (held : AllHeld starts s old) (apart : AreApartBelow starts s limit)
    (is : (w : ℕ) → w < limit → new w ≡ (at_indexes kernel (binds_by starts s kernel.params.items ws args) steps n 0 old).store w) where
  args_fit : ArgsFit s kernel.params.items ws args
  args_fit = args_are s defer kernel.params.items ws args args_are_fit len

  abbrev binds : List Bind
  binds = binds_by starts s kernel.params.items ws args

  stays : (c w : ℕ) → c < s.made → s.alive c ≡ true → IsWordOf (bind_of_container starts s c) w → (IsWritten kernel.params.items binds 0 (0 + n) w → ⊥)
      → new w ≡ old w
  stays c w below alive word out = is w (apart.below c w below alive word)
      ∙ only_written_words_change.at_many kernel binds steps n 0 old w checked binds_fit out

  -- who writes a word of a container
  writer_of : (c w : ℕ) → c < s.made → s.alive c ≡ true → IsWordOf (bind_of_container starts s c) w → (u : IsWritten kernel.params.items binds 0 (0 + n) w)
      → (m : ℕ) × (slice_get args u.number ≡ Some (Name m)) × (container_at s m ≡ c) × (writes_to u.param.access ≡ true) × Uses u.bind 0 (0 + n) w
  writer_of c w below alive word u =
      let v = written_use u.param u.bind 0 (0 + n) w u.writes in
      let a = argument_word starts s kernel.params.items ws args u.number w u.bind args_fit u.has_bind (uses_word u.bind 0 (0 + n) w v.1) in
      (a.name, a.has, apart.apart (container_at s a.name) c w a.below below a.alive alive a.word word, v.0, v.1)

  job_leaves : JobLeaves starts s kernel.params.items ws args old new
      (on_contents kernel (widths binds) steps n 0 (arguments_of s kernel.params.items args)).store
  job_leaves =
      let given = arguments_stand starts s old kernel.params.items ws args defer held args_are_fit len in
      let run = words_run_as_contents kernel binds steps n 0 old (arguments_of s kernel.params.items args) checked binds_fit given in
      record {
        stand = record {
          count = run.store.count;
          each = λ x b h. still b (at_indexes kernel binds steps n 0 old).store new
              (argument (on_contents kernel (widths binds) steps n 0 (arguments_of s kernel.params.items args)).store x) (run.store.each x b h)
              (λ w u. let a = argument_word starts s kernel.params.items ws args x w b args_fit h u in
              is w (apart.below (container_at s a.name) w a.below a.alive a.word));
        };
        same = λ c w below alive word none. stays c w below alive word (λ u.
            let v = writer_of c w below alive word u in
            not_both (writes_by s kernel.params.items args u.number v.0 c u.param u.has_param v.1 v.2 v.3) none);
        outside = λ c w x p m b hp h e hb word beyond.
            let alive = fits_at kernel.params.items ws args x m args_fit h in
            stays c w (subst (λ c. c < s.made) e alive.0) (subst (λ c. s.alive c ≡ true) e alive.1) word (λ u.
            let v = writer_of c w (subst (λ c. c < s.made) e alive.0) (subst (λ c. s.alive c ≡ true) e alive.1) word u in
            let at : x ≡ u.number = only_one s kernel.params.items args x u.number m v.0 c p u.param un hp u.has_param v.3 h v.1 e v.2 in
            let same_bind : b ≡ u.bind = some_is (sym hb ∙ ap (slice_get binds) at ∙ u.has_bind) in
            let used : Uses b 0 (0 + n) w = subst (λ b. Uses b 0 (0 + n) w) (sym same_bind) v.4 in
            no_length b 0 (0 + n) w used (beyond (uses_word b 0 (0 + n) w used)));
      }
    where
      fits_at : (ps : List Param) (ws : List ℕ) (as_ : List Arg) (x m : ℕ) → ArgsFit s ps ws as_ → slice_get as_ x ≡ Some (Name m)
          → (container_at s m < s.made) × (s.alive (container_at s m) ≡ true)
      fits_at [] [] [] x m f h = absurd (none_some h)
      fits_at [] [] (a ∷ as_) x m f h = absurd f
      fits_at [] (q ∷ ws) as_ x m f h = absurd f
      fits_at (p ∷ ps) [] as_ x m f h = absurd f
      fits_at (p ∷ ps) (q ∷ ws) [] x m f h = absurd f
      fits_at (p ∷ ps) (q ∷ ws) (a ∷ as_) zero m f h = let g = subst (ArgFits s p) (some_is h) f.0 in (g.0, g.1)
      fits_at (p ∷ ps) (q ∷ ws) (a ∷ as_) (suc x) m f h = fits_at ps ws as_ x m f.1 h

pub jobs_leave : JobsLeave
jobs_leave starts s kernel ws args defer steps n limit old new checked binds_fit args_fit len un held apart is =
    job_leaves starts s kernel ws args defer steps n limit old new checked binds_fit args_fit len un held apart is
