-- The words that a name stands for, in the planner and by where ranges start.
use Rattle.std.proofs.Common.{◌≡◌, ℕ, ◌<◌, List, length, Option, Some, None, Result, Ok, Err, refl, sym, ap, subst, ◌∙◌, arith}
use Rattle.std.specs.Prelude.{slice_get, IfOk, OnOk, Vec, vec_len}
use Rattle.std.specs.declared.alloc.Global.{Global}
use Rattle.frame_ast.specs.Contents.{Contents, Cells as Elements, Single, Items, Pairs, Entries}
use Rattle.frame_ast.specs.Kinds.{kind_of}
use Rattle.frame_ast.specs.Orders.{Setting}
use Rattle.frame_ast.specs.States as states
use Rattle.frame_ast.specs.States.{ScriptState, contents_at}
use Rattle.frame_ast.specs.declared.name_kind.NameKind.TheVariants as kind
use Rattle.job_handle.specs.declared.handle.Handle.{Handle}
use Rattle.kernel_exec.specs.declared.binds.Bind.{Bind}
use Rattle.plan_laws.specs.Binds.{bind_of, bind_for, bind_at, slice_of, array_of}
use Rattle.plan_laws.specs.Planned.{Outline}
use Rattle.plan_laws.specs.Printing.{FitsContents, IsUsable}
use Rattle.plan_state.specs.declared.state.Value.{Value}
use Rattle.plan_state.specs.declared.state.Value.TheVariants.{Dead, Whole, Slice, View, Jobs as Handles}
use Rattle.plan_state.specs.declared.state.Planner.{Planner}
use Rattle.plan_state.specs.Stands.{jobs_at, Agrees, Stands}
use Rattle.plan_state.specs.Accesses.{slice_in, view_in, bind_from, bind_in, bind_by}
use Rattle.plan_state.proofs.Accessing.{there}

pub on_ok : {T E : Type 0} (r : Result T E) {P Q : Type 0} → (P → Q) → OnOk r P → OnOk r Q
on_ok (Ok x) f h = f h
on_ok (Err e) f h = tt

pub if_ok : {T E : Type 0} (r : Result T E) {P Q : T → Type 0} → ((x : T) → P x → Q x) → IfOk r P → IfOk r Q
if_ok (Ok x) f h = f x h
if_ok (Err e) f h = tt

pub long_enough : {A : Type 0} (v : Vec A Global) (n m : ℕ) → n < vec_len v → length v.items ≡ m → n < m
long_enough v n m lt e = let len = v.ok.0 in omega arith

sliced : (start from len : ℕ) (c : Contents) → kind_of c ≡ kind.Array → slice_in from len (bind_of start c) ≡ slice_of 0 start from len
sliced start from len (Elements xs) u = refl
sliced start from len (Single z) u = absurd cc
sliced start from len (Items cap xs) u = absurd cc
sliced start from len (Pairs cap ps) u = absurd cc
sliced start from len (Entries room es) u = absurd cc

viewed : (start : ℕ) (c : Contents) → kind_of c ≡ kind.List → view_in (bind_of start c) ≡ array_of 0 start c
viewed start (Elements xs) u = absurd cc
viewed start (Single z) u = absurd cc
viewed start (Items cap xs) u = refl
viewed start (Pairs cap ps) u = absurd cc
viewed start (Entries room es) u = absurd cc

module _ {p : Planner} {g : Setting} {begun : ScriptState} {n : ℕ} {s : ScriptState} {found : List ℕ} (st : Stands p g begun n s found) (x : Outline)
    (a : Agrees p g begun found x) where
  bind_here : (c : ℕ) (f : Bind → Bind) → c < length p.world.containers.items
      → bind_in p.world.containers.items c f ≡ f (bind_of (x.starts (s.range c)) (s.contents c))
  bind_here c f lt =
      let it = there p.world.containers.items c lt in
      let k = st.knows.containers.each c it.0 it.1 in
      ap (λ o. bind_from o f) it.1 ∙ ap f k.bind ∙ ap (λ n. f (bind_of n (s.contents c)))
      (sym (a.starts (s.range c) (let lt = k.range in let t = st.knows.takes in omega arith)))

  pub binds_at : (name : ℕ) (v : Value) → slice_get p.world.values.items name ≡ Some v → IsUsable s name
      → bind_by p.world.containers.items v ≡ bind_at x.starts s name
  binds_at name Dead h u = absurd (subst (λ v. FitsContents v (contents_at s name)) (sym (st.knows.names.are name Dead h)) u.fits)
  binds_at name (Whole c) h u =
      bind_here c (λ b. b) (st.knows.names.there name (Whole c) h)
      ∙ ap (λ v. bind_for v (x.starts (s.range (states.container_of v))) (s.contents (states.container_of v))) (st.knows.names.are name (Whole c) h)
  binds_at name (Slice c start len) h u =
      let v = st.knows.names.are name (Slice c start len) h in
      bind_here c (slice_in start len) (st.knows.names.there name (Slice c start len) h).0
      ∙ sliced (x.starts (s.range c)) start len (s.contents c) (subst (λ v. FitsContents v (s.contents (states.container_of v))) (sym v) u.fits).0
      ∙ ap (λ v. bind_for v (x.starts (s.range (states.container_of v))) (s.contents (states.container_of v))) v
  binds_at name (View c number) h u =
      let v = st.knows.names.are name (View c number) h in
      bind_here c view_in (st.knows.names.there name (View c number) h)
      ∙ viewed (x.starts (s.range c)) (s.contents c) (subst (λ v. FitsContents v (s.contents (states.container_of v))) (sym v) u.fits)
      ∙ ap (λ v. bind_for v (x.starts (s.range (states.container_of v))) (s.contents (states.container_of v))) v
  binds_at name (Handles k) h u = absurd (by (slice_get p.world.handles.items k)
      (subst (λ v. FitsContents v (contents_at s name)) (sym (st.knows.names.are name (Handles k) h)) u.fits))
    where
      by : (o : Option Handle) → FitsContents (jobs_at o) (contents_at s name) → ⊥
      by None u = u
      by (Some q) u = u
