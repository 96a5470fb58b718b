-- What the job of an accepted schedule leaves of the containers.
use Rattle.std.proofs.Common.{◌≡◌, refl, sym, ◌∙◌, subst, ℕ, ◌+◌, Bool, true, false, ◌&&◌, List, [], ◌∷◌, length, Option}
use Rattle.std.specs.Prelude.{nat_eq, if◌then◌else◌}
use Rattle.std.proofs.lemmas.Bool.{eqb-true, and_parts}
use Rattle.frame_ast.specs.declared.kernel.ParamKind.{ParamKind}
use Rattle.frame_ast.specs.declared.kernel.ParamKind.TheVariants.{Int, Array as KindArray, List as KindList, Ref, Map as KindMap, Stream as KindStream}
use Rattle.frame_ast.specs.declared.kernel.Param.{Param}
use Rattle.frame_ast.specs.declared.script.Arg.{Arg}
use Rattle.frame_ast.specs.declared.script.Arg.TheVariants.{Name, Number}
use Rattle.frame_ast.specs.Contents.{Contents, Cells, IsHeld, elements}
use Rattle.frame_ast.specs.States.{Value, ScriptState, with_at, container_of, container_at, contents_at, value_elements}
use Rattle.frame_ast.specs.Schedules.{Given, writes_to, is_list, givens, seen_as, arguments_of, left_in, leave_all}
use Rattle.frame_ast.specs.Orders.{Setting, params_of}
use Rattle.frame_ast.specs.Effects.{accept, all_broken}
use Rattle.frame_ast.specs.declared.name_kind.NameKind.{NameKind}
use Rattle.frame_ast.specs.Accepted.{Names, args_fit}
use Rattle.frame_ast.specs.Forms.{IsKept, AreHeld, AreKept}
use Rattle.frame_ast.specs.Kinds.{IsOfKind, HoldsKinds}
use Rattle.frame_ast.proofs.Forms.{same_kept, then_kept}
use Rattle.frame_ast.proofs.Keeping.{RunsKeep}
use Rattle.frame_ast.proofs.Growing.{kept_like, same_fits, fits_after, elements_kept}
use Rattle.frame_ast.proofs.Naming.{is_used}

-- the same containers, with contents that keep theirs
pub record After (s t : ScriptState) : Type 0 where
  pub made : t.made ≡ s.made
  pub contents : (c : ℕ) → IsKept (s.contents c) (t.contents c)

seen_held : (kind : ParamKind) (v : Value) (c : Contents) → IsHeld c → IsHeld (seen_as kind v c)
seen_held Int v c held = held
seen_held KindArray v c held = tt
seen_held KindList v c held = held
seen_held Ref v c held = held
seen_held KindMap v c held = held
seen_held KindStream v c held = held

arguments_held : (s : ScriptState) → ((c : ℕ) → IsHeld (s.contents c)) → (params : List Param) (args : List Arg) → AreHeld (arguments_of s params args)
arguments_held s held [] args = tt
arguments_held s held (p ∷ ps) [] = tt
arguments_held s held (p ∷ ps) (Name n ∷ as_) = (seen_held p.kind (s.values n) (contents_at s n) (held (container_at s n)), arguments_held s held ps as_)
arguments_held s held (p ∷ ps) (Number z ∷ as_) = (tt, arguments_held s held ps as_)

-- what a job leaves of an argument keeps what the container holds then
left_kept : (kind : ParamKind) (s : ScriptState) (k : NameKind) (v : Value) → IsOfKind s k v → IsHeld (s.contents (container_of v)) → (new : Contents)
    → IsKept (seen_as kind v (s.contents (container_of v))) new → (now : Contents) → IsKept (s.contents (container_of v)) now
    → IsKept now (left_in kind v new now)
left_kept Int s k v h held new kept now after = same_kept now after.held
left_kept KindArray s k v h held new kept now after =
    let c = s.contents (container_of v) in
    let many : length (elements new) ≡ length (value_elements v c) = (kept_like (Cells (value_elements v c)) new kept).length refl in
    elements_kept v (elements new) now after.held (fits_after v (elements new) c now after (same_fits s k v (elements new) h held many))
left_kept KindList s k v h held new kept now after = record { form = kept.form ∙ sym after.form; held = kept.held }
left_kept Ref s k v h held new kept now after = record { form = kept.form ∙ sym after.form; held = kept.held }
left_kept KindMap s k v h held new kept now after = record { form = kept.form ∙ sym after.form; held = kept.held }
left_kept KindStream s k v h held new kept now after = record { form = kept.form ∙ sym after.form; held = kept.held }

with_kept : (old f : ℕ → Contents) (m : ℕ) (x : Contents) → ((c : ℕ) → IsKept (old c) (f c)) → IsKept (f m) x → (c : ℕ) → IsKept (old c) (with_at f m x c)
with_kept old f m x kept h c =
    elim (nat_eq c m) as (λ b. nat_eq c m ≡ b → IsKept (old c) (if b then x else f c)) [
      | true ↦ λ e. subst (λ n. IsKept (old n) x) (sym (eqb-true c m e)) (then_kept (old m) (f m) x (kept m) h)
      | false ↦ λ e. kept c
    ] refl

leave_after : (ns : Names) (s : ScriptState) → HoldsKinds ns.kinds s → (defer : Option (ℕ × ℕ)) (params : List Param) (args : List Arg) (news : List Contents)
    → args_fit ns defer params args ≡ true → AreKept (arguments_of s params args) news → (f : ℕ → Contents) → ((c : ℕ) → IsKept (s.contents c) (f c))
    → After s (leave_all params args news (record s { contents = f }))
leave_after ns s k defer [] args news fits are f kept = record { made = refl; contents = kept }
leave_after ns s k defer (p ∷ ps) [] news fits are f kept = record { made = refl; contents = kept }
leave_after ns s k defer (p ∷ ps) (a ∷ as_) [] fits are f kept = record { made = refl; contents = kept }
leave_after ns s k defer (p ∷ ps) (Number z ∷ as_) (new ∷ news) fits are f kept = leave_after ns s k defer ps as_ news (and_parts _ _ fits).1 are.1 f kept
leave_after ns s k defer (p ∷ ps) (Name n ∷ as_) (new ∷ news) fits are f kept =
    let now : Contents = f (container_at s n) in
    let left : Contents = left_in p.kind (s.values n) new now in
    let rest = (and_parts _ _ fits).1 in
    let used = is_used ns n _ (and_parts _ _ fits).0 in
    let keeps : IsKept now left = left_kept p.kind s used.kind (s.values n) (k.names n used.kind used.at) (k.containers (container_at s n)) new are.0 now
    (kept (container_at s n)) in
    elim (writes_to p.access) as (λ b. After s (leave_all ps as_ news (if b then record s {
      contents =
          with_at f (container_at s n) left;
    } else record s { contents = f }))) [
      | true ↦ leave_after ns s k defer ps as_ news rest are.1 (with_at f (container_at s n) left) (with_kept s.contents f (container_at s n) left kept keeps)
      | false ↦ leave_after ns s k defer ps as_ news rest are.1 f kept
    ]

broken_after : (s : ScriptState) (gs : List Given) (t : ScriptState) → After s t → After s (all_broken gs t)
broken_after s [] t a = a
broken_after s (g ∷ more) t a =
    elim (is_list g.kind && g.need.writes) as (λ b. After s (all_broken more
    (if b then record t { view = with_at t.view g.need.container (t.view g.need.container + 1) } else t))) [
      | true ↦ broken_after s more (record t { view = with_at t.view g.need.container (t.view g.need.container + 1) })
          (record { made = a.made; contents = a.contents })
      | false ↦ broken_after s more t a
    ]

-- what an accepted schedule leaves of the containers
pub accept_after : (g : Setting) → RunsKeep g.runs → (ns : Names) (s : ScriptState) (auto : Bool) (handle kernel : ℕ) (args : List Arg)
    (cut defer : Option (ℕ × ℕ)) (waive after : List ℕ) → args_fit ns defer (params_of g kernel) args ≡ true → HoldsKinds ns.kinds s
    → After s (accept g s auto handle kernel args cut defer waive after)
accept_after g keep ns s auto handle kernel args cut defer waive after fits k =
    let params : List Param = params_of g kernel in
    let kept = keep kernel _ _ _ (arguments_of s params args) (arguments_held s k.containers params args) in
    let left = broken_after s (givens s params args defer) _ (leave_after ns s k defer params args _ fits kept s.contents
    (λ c. same_kept (s.contents c) (k.containers c))) in
    record { made = left.made; contents = left.contents }
