-- The binds of the arguments of an accepted schedule fit its kernel, with `defer` or without.
use Rattle.std.proofs.Common.{◌≡◌, ◌≢◌, ℕ, zero, suc, ◌+◌, ◌<◌, ◌≤◌, ◌^◌, ◌⊎◌, inl, inr, ⊎_elim, Bool, true, false, ◌&&◌, not, List, [], ◌∷◌, length, map, get_or, Option, Some, None, refl, sym, ap, subst, ◌∙◌, arith}
use Rattle.std.specs.Prelude.{slice_get, nat_eq, if◌then◌else◌}
use Rattle.frame_ast.specs.declared.kernel.ParamKind.{ParamKind}
use Rattle.frame_ast.specs.declared.kernel.ParamKind.TheVariants.{Int as IntKind, Array as ArrayKind, List as ListKind, Ref as RefKind, Map as MapKind, Stream as StreamKind}
use Rattle.frame_ast.specs.declared.kernel.Kernel.{Kernel}
use Rattle.frame_ast.specs.declared.kernel.Param.{Param}
use Rattle.frame_ast.specs.declared.script.Arg.{Arg}
use Rattle.frame_ast.specs.declared.script.Arg.TheVariants.{Name, Number}
use Rattle.frame_ast.specs.Arguments.{width_of}
use Rattle.frame_ast.specs.Checked.{is_read, may_write, written_param}
use Rattle.frame_ast.specs.Contents.{Contents, Cells as Elements, Single, Items, Pairs, Entries}
use Rattle.frame_ast.specs.Fitting as fit
use Rattle.frame_ast.specs.Fitting.{AreUnshared}
use Rattle.frame_ast.specs.Lists.{member}
use Rattle.frame_ast.specs.Ranges.{Starts}
use Rattle.frame_ast.specs.Schedules.{writes_to, width_by, width_at, widths_from}
use Rattle.frame_ast.specs.States.{ScriptState, Value, container_at, contents_at}
use Rattle.kernel_exec.specs.declared.binds.Bind.{Bind}
use Rattle.kernel_exec.specs.Binds.{kind_of, end_of, own_of, width_if, widths, IsWordOf}
use Rattle.kernel_exec.specs.Conditions.{BindsFit}
use Rattle.kernel_exec.specs.Laws.{HaveOwnParts}
use Rattle.frame_core.proofs.Small.{not_both, some_is, none_some}
use Rattle.plan_laws.specs.Binds.{bind_of, bind_as, bind_by, start_at, binds_by}
use Rattle.plan_laws.specs.Drafts.{Draft}
use Rattle.plan_laws.specs.Planned.{Outline, jobs_before, IsPlanned}
use Rattle.plan_laws.proofs.Schedules.Fitting.{FitsKind, ArgFits, ArgsFit, args_are, length_widths}
use Rattle.plan_laws.proofs.Schedules.LeftWords.{argument_word, only_one, writes_if}
use Rattle.plan_laws.proofs.Statements.Making.{alive_is_live}
use Rattle.plan_laws.proofs.Owners.{words_apart, word_has}

-- ---- one argument

-- which widths a kind of parameter can have
abbrev IsWidthFor : ParamKind → ℕ → Type 0
IsWidthFor IntKind w = w ≡ 0
IsWidthFor ArrayKind w = Unit {0}
IsWidthFor ListKind w = w ≡ 0
IsWidthFor RefKind w = w ≡ 0
IsWidthFor MapKind w = w ≡ 0
IsWidthFor StreamKind w = (w ≡ 0) ⊎ (w ≡ 1)

width_for : (parallel : Bool) (waive : List ℕ) (x : ℕ) (p : Param) → IsWidthFor p.kind (width_at parallel waive x p)
width_for parallel waive x p = by p.kind (parallel && writes_to p.access) (member x waive)
  where
    by : (kind : ParamKind) (b m : Bool) → IsWidthFor kind (if b then width_by m p kind else 0)
    by IntKind true m = refl
    by IntKind false m = refl
    by ArrayKind b m = tt
    by ListKind true m = refl
    by ListKind false m = refl
    by RefKind true m = refl
    by RefKind false m = refl
    by MapKind true m = refl
    by MapKind false m = refl
    by StreamKind true m = inr refl
    by StreamKind false m = inl refl

-- it is of its kind, ends where the container does or before, and has its width
record IsBindFor (kind : ParamKind) (width start : ℕ) (c : Contents) (b : Bind) : Type 0 where
  is_kind : kind_of b ≡ kind
  ends : end_of b ≤ end_of (bind_of start c)
  own : own_of b ≡ width

bind_for_kind : (kind : ParamKind) (w : ℕ) (v : Value) (start : ℕ) (c : Contents) → FitsKind kind v c → IsWidthFor kind w
    → IsBindFor kind w start c (bind_as kind w v start c)
bind_for_kind IntKind w v start c f h = absurd f
bind_for_kind ArrayKind w Value.Dead start c f h = absurd f
bind_for_kind ArrayKind w (Value.Whole n) start (Elements xs) f h = record { is_kind = refl; ends = omega arith; own = refl }
bind_for_kind ArrayKind w (Value.Whole n) start (Single z) f h = absurd f
bind_for_kind ArrayKind w (Value.Whole n) start (Items cap xs) f h = record { is_kind = refl; ends = omega arith; own = refl }
bind_for_kind ArrayKind w (Value.Whole n) start (Pairs cap ps) f h = absurd f
bind_for_kind ArrayKind w (Value.Whole n) start (Entries room es) f h = absurd f
bind_for_kind ArrayKind w (Value.Slice n from len) start (Elements xs) f h = record { is_kind = refl; ends = omega arith; own = refl }
bind_for_kind ArrayKind w (Value.Slice n from len) start (Single z) f h = absurd f
bind_for_kind ArrayKind w (Value.Slice n from len) start (Items cap xs) f h = absurd f
bind_for_kind ArrayKind w (Value.Slice n from len) start (Pairs cap ps) f h = absurd f
bind_for_kind ArrayKind w (Value.Slice n from len) start (Entries room es) f h = absurd f
bind_for_kind ArrayKind w (Value.View n number) start (Elements xs) f h = absurd f
bind_for_kind ArrayKind w (Value.View n number) start (Single z) f h = absurd f
bind_for_kind ArrayKind w (Value.View n number) start (Items cap xs) f h = record { is_kind = refl; ends = omega arith; own = refl }
bind_for_kind ArrayKind w (Value.View n number) start (Pairs cap ps) f h = absurd f
bind_for_kind ArrayKind w (Value.View n number) start (Entries room es) f h = absurd f
bind_for_kind ArrayKind w (Value.Handle jobs) start c f h = absurd f
bind_for_kind ListKind w v start (Elements xs) f h = absurd cc
bind_for_kind ListKind w v start (Single z) f h = absurd cc
bind_for_kind ListKind w v start (Items cap xs) f h = record { is_kind = refl; ends = omega arith; own = sym h }
bind_for_kind ListKind w v start (Pairs cap ps) f h = absurd cc
bind_for_kind ListKind w v start (Entries room es) f h = absurd cc
bind_for_kind RefKind w v start (Elements xs) f h = absurd cc
bind_for_kind RefKind w v start (Single z) f h = record { is_kind = refl; ends = omega arith; own = sym h }
bind_for_kind RefKind w v start (Items cap xs) f h = absurd cc
bind_for_kind RefKind w v start (Pairs cap ps) f h = absurd cc
bind_for_kind RefKind w v start (Entries room es) f h = absurd cc
bind_for_kind MapKind w v start (Elements xs) f h = absurd cc
bind_for_kind MapKind w v start (Single z) f h = absurd cc
bind_for_kind MapKind w v start (Items cap xs) f h = absurd cc
bind_for_kind MapKind w v start (Pairs cap ps) f h = record { is_kind = refl; ends = omega arith; own = sym h }
bind_for_kind MapKind w v start (Entries room es) f h = absurd cc
bind_for_kind StreamKind w v start (Elements xs) f h = absurd cc
bind_for_kind StreamKind w v start (Single z) f h = absurd cc
bind_for_kind StreamKind w v start (Items cap xs) f h = absurd cc
bind_for_kind StreamKind w v start (Pairs cap ps) f h = absurd cc
bind_for_kind StreamKind w v start (Entries room es) f h = record {
  is_kind = refl;
  ends = omega arith;
  own = ⊎_elim (λ e. ap (λ w. width_if (not (nat_eq w 0))) e ∙ sym e) (λ e. ap (λ w. width_if (not (nat_eq w 0))) e ∙ sym e) h;
}

own_at : (bs : List Bind) (y : ℕ) (b : Bind) → slice_get bs y ≡ Some b → get_or (map own_of bs) y 0 ≡ own_of b
own_at [] y b h = absurd (none_some h)
own_at (x ∷ bs) zero b h = ap own_of (some_is h)
own_at (x ∷ bs) (suc y) b h = own_at bs y b h

not_read : (b : Bool) → not b ≡ true → b ≡ false
not_read true e = sym e
not_read false e = refl

pub wrote : (o : Option Param) → written_param o ≡ true → (p : Param) × (o ≡ Some p) × (writes_to p.access ≡ true)
wrote None e = absurd (not_both e refl)
wrote (Some p) e = (p, refl, writes_if p.access (not_read (is_read p.access) e))

-- ---- all arguments

-- which argument a bind is of
pub record IsBindAt (starts : Starts) (s : ScriptState) (ps : List Param) (as_ : List Arg) (y : ℕ) (b : Bind) : Type 0 where
  pub param : Param
  pub width : ℕ
  pub arg : Arg
  pub has_param : slice_get ps y ≡ Some param
  pub has_arg : slice_get as_ y ≡ Some arg
  pub fits : ArgFits s param arg
  pub right : IsWidthFor param.kind width
  pub is : bind_by starts s param width arg ≡ b

module _ (starts : Starts) (s : ScriptState) (parallel : Bool) (waive : List ℕ) where
  pub bind_at : (from : ℕ) (ps : List Param) (as_ : List Arg) (y : ℕ) (b : Bind) → ArgsFit s ps (widths_from parallel waive from ps) as_
      → slice_get (binds_by starts s ps (widths_from parallel waive from ps) as_) y ≡ Some b → IsBindAt starts s ps as_ y b
  bind_at from [] as_ y b f h = absurd (none_some h)
  bind_at from (p ∷ ps) [] y b f h = absurd (none_some h)
  bind_at from (p ∷ ps) (a ∷ as_) zero b f h =
      record {
        param = p;
        width = width_at parallel waive from p;
        arg = a;
        has_param = refl;
        has_arg = refl;
        fits = f.0;
        right = width_for parallel waive from p;
        is = some_is h;
      }
  bind_at from (p ∷ ps) (a ∷ as_) (suc y) b f h =
      let r = bind_at (from + 1) ps as_ y b f.1 h in
      record { param = r.param; width = r.width; arg = r.arg; has_param = r.has_param; has_arg = r.has_arg; fits = r.fits; right = r.right; is = r.is }

  binds_long : (from : ℕ) (ps : List Param) (as_ : List Arg) → ArgsFit s ps (widths_from parallel waive from ps) as_
      → length (binds_by starts s ps (widths_from parallel waive from ps) as_) ≡ length ps
  binds_long from [] as_ f = refl
  binds_long from (p ∷ ps) [] f = absurd f
  binds_long from (p ∷ ps) (a ∷ as_) f = ap suc (binds_long (from + 1) ps as_ f.1)

  width_same : (p : Param) (w : ℕ) (a : Arg) → ArgFits s p a → IsWidthFor p.kind w → own_of (bind_by starts s p w a) ≡ w
  width_same p w (Name n) f h = (bind_for_kind p.kind w (s.values n) (start_at starts s n) (contents_at s n) f.2 h).own
  width_same p w (Number z) f h = sym (subst (λ k. IsWidthFor k w) f h)

  -- the widths of the binds are those of the language
  widths_same : (from : ℕ) (ps : List Param) (as_ : List Arg) → ArgsFit s ps (widths_from parallel waive from ps) as_
      → widths (binds_by starts s ps (widths_from parallel waive from ps) as_) ≡ widths_from parallel waive from ps
  widths_same from [] as_ f = refl
  widths_same from (p ∷ ps) [] f = absurd f
  widths_same from (p ∷ ps) (a ∷ as_) f =
      let here = width_same p (width_at parallel waive from p) a f.0 (width_for parallel waive from p) in
      let rest = widths_same (from + 1) ps as_ f.1 in
      λ i. here i ∷ rest i

module _ (x : Outline) (small : x.plan.cells < 2 ^ 32) (s : ScriptState) (d : Draft) (was : IsPlanned x s d) (k : Kernel) (waive : List ℕ) (args : List Arg)
    (defer : Option (ℕ × ℕ))
    (fits : fit.ArgsFit s defer k.params.items args) (un : AreUnshared s k.params.items args) where
  abbrev ps : List Param
  ps = k.params.items

  abbrev pub ws : List ℕ
  ws = widths_from k.parallel waive 0 ps

  abbrev pub binds : List Bind
  binds = binds_by x.starts s ps ws args

  pub widths_long : length ws ≡ length ps
  widths_long = length_widths k.parallel waive 0 ps

  pub all_fit : ArgsFit s ps ws args
  all_fit = args_are s defer ps ws args fits widths_long

  pub widths_are : widths binds ≡ ws
  widths_are = widths_same x.starts s k.parallel waive 0 ps args all_fit

  pub bind_here : (y : ℕ) (b : Bind) → slice_get binds y ≡ Some b → IsBindAt x.starts s ps args y b
  bind_here y b h = bind_at x.starts s k.parallel waive 0 ps args y b all_fit h

  kinds : (y : ℕ) (p : Param) (b : Bind) → slice_get ps y ≡ Some p → slice_get binds y ≡ Some b → kind_of b ≡ p.kind
  kinds y p b hp hb =
      let r = bind_here y b hb in
      ap kind_of (sym r.is) ∙ by r.param r.width r.arg r.fits r.right ∙ ap (λ (p : Param). p.kind) (some_is (sym r.has_param ∙ hp))
    where
      by : (p : Param) (w : ℕ) (a : Arg) → ArgFits s p a → IsWidthFor p.kind w → kind_of (bind_by x.starts s p w a) ≡ p.kind
      by p w (Name n) f h = (bind_for_kind p.kind w (s.values n) (start_at x.starts s n) (contents_at s n) f.2 h).is_kind
      by p w (Number z) f h = sym f

  pub within : (y : ℕ) (b : Bind) → slice_get binds y ≡ Some b → end_of b ≤ x.plan.cells
  within y b hb =
      let r = bind_here y b hb in
      subst (λ b. end_of b ≤ x.plan.cells) r.is (by r.param r.width r.arg r.fits r.right)
    where
      by : (p : Param) (w : ℕ) (a : Arg) → ArgFits s p a → IsWidthFor p.kind w → end_of (bind_by x.starts s p w a) ≤ x.plan.cells
      by p w (Name n) f h =
          let e = (bind_for_kind p.kind w (s.values n) (start_at x.starts s n) (contents_at s n) f.2 h).ends in
          let le = was.standing.within (container_at s n) (alive_is_live s (container_at s n) f.0 f.1) in
          omega arith
      by p w (Number z) f h = omega arith

  -- a word that two of them have is one container's
  apart : (y z : ℕ) (a b : Bind) (w : ℕ) → may_write ps y ≡ true → y ≢ z → slice_get binds y ≡ Some a → slice_get binds z ≡ Some b → IsWordOf a w → IsWordOf b w
      → ⊥
  apart y z a b w may ne ha hb wa wb =
      let p = wrote (slice_get ps y) may in
      let r = bind_here z b hb in
      let one = argument_word x.starts s ps ws args y w a all_fit ha wa in
      let two = argument_word x.starts s ps ws args z w b all_fit hb wb in
      let same = words_apart x.plan x.starts (jobs_before x) (length d.jobs) s was.ordered.ledger (container_at s one.name) (container_at s two.name) w
      (alive_is_live s (container_at s one.name) one.below one.alive) (alive_is_live s (container_at s two.name) two.below two.alive)
      (word_has x.starts s (container_at s one.name) w one.word) (word_has x.starts s (container_at s two.name) w two.word) in
      ne (sym (only_one s ps args z y two.name one.name (container_at s two.name) r.param p.0 un r.has_param p.1 p.2 two.has one.has refl same))

  pub binds_fit : BindsFit k binds
  binds_fit = record {
    count = binds_long x.starts s k.parallel waive 0 ps args all_fit;
    kinds = kinds;
    ends = λ y b hb. let le = within y b hb in omega arith;
    apart = λ y z a b w may ne ha hb wa beyond wb. apart y z a b w may ne ha hb wa wb;
  }

  pub own_parts : ((y : ℕ) (p : Param) → slice_get ps y ≡ Some p → writes_to p.access ≡ true → 0 < width_of ws y) → HaveOwnParts k binds
  own_parts has y b may hb none =
      let p = wrote (slice_get ps y) may in
      let lt = has y p.0 p.1 p.2 in
      let at = own_at binds y b hb in
      let same = ap (λ l. get_or l y 0) widths_are in
      absurd (omega arith)
