-- Containers that live for one frame have no users.
use Rattle.std.proofs.Common.{◌≡◌, refl, sym, ap, ◌∙◌, subst, ℕ, zero, suc, ◌+◌, Bool, true, false, ◌&&◌, List, [], ◌∷◌, map, get_or, Option, None, Some, Result, Ok, Err}
use Rattle.std.specs.Prelude.{nat_eq, if◌then◌else◌}
use Rattle.std.proofs.lemmas.Bool.{and_parts, eqb-true, false≢true, or_from, both_ways, false_from_ne_true}
use Rattle.job_base.specs.declared.Trap.{Trap}
use Rattle.frame_ast.specs.declared.script.Life.{Life}
use Rattle.frame_ast.specs.declared.script.Arg.{Arg}
use Rattle.frame_ast.specs.declared.script.Order.{Order}
use Rattle.frame_ast.specs.declared.script.Order.TheVariants.{Array, Column, List as NewList, Reference, Map, Stream, Set, Add, Put, Remove, Clear, SetCapacity, Schedule, Dispose}
use Rattle.frame_ast.specs.declared.script.Statement.{Statement}
use Rattle.frame_ast.specs.declared.kernel.Param.{Param}
use Rattle.frame_ast.specs.declared.script.Arg.TheVariants.{Name, Number}
use Rattle.frame_ast.specs.Contents.{Contents, Cells, Single, Items, Pairs, Entries, cleared}
use Rattle.frame_ast.specs.Conflicts.{Uses, unused, uses_it}
use Rattle.frame_ast.specs.JobRuns.{no_run}
use Rattle.frame_ast.specs.States.{ScriptState, at_start, with_contents, container_at, contents_at}
use Rattle.frame_ast.specs.Schedules.{Given, writes_to, is_list, givens, arguments_of, left_in, leave_all, widths_from}
use Rattle.frame_ast.specs.Refusals.{Refused, is_temp, first_given}
use Rattle.frame_ast.specs.Orders.{Setting, params_of, is_parallel, capacity_in, job_length}
use Rattle.frame_ast.specs.Checks.{refusal}
use Rattle.frame_ast.specs.Effects.{effect, make, accept, steps_by, changed, view_broken, all_broken, views_broken, list_broken}
use Rattle.frame_ast.specs.Scripts.{decided, act_or_pass, act, act_all}
use Rattle.frame_ast.specs.Laws.{TempsHaveNoUsers}
use Rattle.frame_ast.proofs.Refusing.{refused_like}
use Rattle.frame_ast.proofs.Scheduled.{no_cause_given, none_given}

abbrev AreUnused : (ℕ → Life) → (ℕ → Uses) → Type 0
AreUnused life uses = (c j : ℕ) → is_temp (life c) ≡ true → (uses c).users j ≡ false

record TempsAreUnused (s : ScriptState) : Type 0 where
  at : AreUnused s.life s.uses

-- a state with the same lives and uses
record IsAlike (s t : ScriptState) : Type 0 where
  life : t.life ≡ s.life
  uses : t.uses ≡ s.uses

alike_unused : (s t : ScriptState) → IsAlike s t → TempsAreUnused s → TempsAreUnused t
alike_unused s t like k = record {
  at = λ c j temp. ap (λ u. (u c).users j) like.uses ∙ k.at c j (ap (λ l. is_temp (l c)) (sym like.life) ∙ temp);
}

self : (s : ScriptState) → IsAlike s s
self s = record { life = refl; uses = refl }

list_alike : (held : Contents) (n : ℕ) (s : ScriptState) → IsAlike s (list_broken held n s)
list_alike (Cells xs) n s = self s
list_alike (Single z) n s = self s
list_alike (Items cap xs) n s = record { life = refl; uses = refl }
list_alike (Pairs cap ps) n s = self s
list_alike (Entries room es) n s = self s

changed_alike : (name : ℕ) (r : Result Contents Trap) (s : ScriptState) → IsAlike s (changed name r s)
changed_alike name (Ok c) s = record { life = refl; uses = refl }
changed_alike name (Err t) s = self s

resized_alike : (name : ℕ) (r : Result Contents Trap) (s : ScriptState) → IsAlike s (views_broken name (changed name r s))
resized_alike name r s =
    let t = changed name r s in
    let after = list_alike (contents_at t name) (container_at t name) t in
    let before = changed_alike name r s in
    record { life = after.life ∙ before.life; uses = after.uses ∙ before.uses }

broken_life : (gs : List Given) (s : ScriptState) → (all_broken gs s).life ≡ s.life
broken_life [] s = refl
broken_life (g ∷ more) s =
    elim (is_list g.kind && g.need.writes) as (λ b. (all_broken more (if b then view_broken g.need.container s else s)).life ≡ s.life) [
      | true ↦ broken_life more (view_broken g.need.container s)
      | false ↦ broken_life more s
    ]

left_life : (params : List Param) (args : List Arg) (news : List Contents) (s : ScriptState) → (leave_all params args news s).life ≡ s.life
left_life [] args news s = refl
left_life (p ∷ ps) [] news s = refl
left_life (p ∷ ps) (a ∷ as_) [] s = refl
left_life (p ∷ ps) (Number z ∷ as_) (new ∷ news) s = left_life ps as_ news s
left_life (p ∷ ps) (Name n ∷ as_) (new ∷ news) s =
    elim (writes_to p.access) as (λ b. (leave_all ps as_ news (if b then with_contents (container_at s n)
    (left_in p.kind (s.values n) new (contents_at s n)) s else s)).life ≡ s.life) [
      | true ↦ left_life ps as_ news (with_contents (container_at s n) (left_in p.kind (s.values n) new (contents_at s n)) s)
      | false ↦ left_life ps as_ news s
    ]

-- no value of the schedule is of a temp container
not_used : (life : ℕ → Life) (gs : List Given) (c : ℕ) → is_temp (life c) ≡ true → first_given (λ g. is_temp (life g.need.container)) gs ≡ None
    → uses_it (map (λ g. g.need) gs) c ≡ false
not_used life [] c temp none = refl
not_used life (g ∷ more) c temp none =
    let parts = none_given (λ g. is_temp (life g.need.container)) g more none in
    or_from (nat_eq c g.need.container) (uses_it (map (λ g. g.need) more) c)
    (false_from_ne_true (nat_eq c g.need.container) (λ e. absurd (false≢true
    (sym parts.0 ∙ subst (λ n. is_temp (life n) ≡ true) (eqb-true c g.need.container e) temp))))
    (not_used life more c temp parts.1)

accept_unused : (g : Setting) (s : ScriptState) (auto : Bool) (handle kernel : ℕ) (args : List Arg) (cut defer : Option (ℕ × ℕ)) (waive after : List ℕ)
    → first_given (λ v. is_temp (s.life v.need.container)) (givens s (params_of g kernel) args defer) ≡ None → TempsAreUnused s
    → TempsAreUnused (accept g s auto handle kernel args cut defer waive after)
accept_unused g s auto handle kernel args cut defer waive after none k =
    let params = params_of g kernel in
    let gs = givens s params args defer in
    let ran = get_or g.runs kernel no_run (widths_from (is_parallel g kernel) waive 0 params) (steps_by defer) (job_length s cut defer)
    (arguments_of s params args) in
    let life : (all_broken gs (leave_all params args ran.store s)).life ≡ s.life = broken_life gs (leave_all params args ran.store s)
    ∙ left_life params args ran.store s in
    record {
      at = λ c j temp.
          let was : is_temp (s.life c) ≡ true = ap (λ l. is_temp (l c)) (sym life) ∙ temp in
          or_from ((s.uses c).users j) (nat_eq j (s.book.count + 1) && uses_it (map (λ v. v.need) gs) c) (k.at c j was)
          (false_from_ne_true (nat_eq j (s.book.count + 1) && uses_it (map (λ v. v.need) gs) c)
          (λ e. both_ways (uses_it (map (λ v. v.need) gs) c) (not_used s.life gs c was none) (and_parts (nat_eq j (s.book.count + 1)) _ e).1));
    }

made_unused : (line name : ℕ) (life : Life) (contents : Contents) (s : ScriptState) → TempsAreUnused s → TempsAreUnused (make line name life contents s)
made_unused line name life contents s k = record {
  at = λ c j. elim (nat_eq c s.made) as (λ b. is_temp (if b then life else s.life c) ≡ true
      → (if b then unused else s.uses c).users j ≡ false) [ true ↦ λ temp. refl | false ↦ λ temp. k.at c j temp ];
}

effect_unused : (g : Setting) (line : ℕ) (s : ScriptState) (x : Order) → refusal g s x ≡ None → TempsAreUnused s → TempsAreUnused (effect g line s x)
effect_unused g line s (Array name len life values) none k = made_unused line name life _ s k
effect_unused g line s (Column name column life) none k = made_unused line name life _ s k
effect_unused g line s (NewList name cap life) none k = made_unused line name life _ s k
effect_unused g line s (Reference name life value) none k = made_unused line name life _ s k
effect_unused g line s (Map name cap life) none k = made_unused line name life _ s k
effect_unused g line s (Stream name count room life) none k = made_unused line name life _ s k
effect_unused g line s (Set name at value) none k = alike_unused s _ (changed_alike name _ s) k
effect_unused g line s (Add name first second) none k = alike_unused s _ (resized_alike name _ s) k
effect_unused g line s (Put name key value) none k = alike_unused s _ (changed_alike name _ s) k
effect_unused g line s (Remove name at) none k = alike_unused s _ (resized_alike name _ s) k
effect_unused g line s (Clear name) none k = alike_unused s _ (resized_alike name (Ok (cleared (contents_at s name))) s) k
effect_unused g line s (SetCapacity name cap) none k = let after = resized_alike name (capacity_in (contents_at s name) cap) s in
    alike_unused s (effect g line s (SetCapacity name cap)) (record { life = after.life; uses = after.uses }) k
effect_unused g line s (Schedule job) none k =
    accept_unused g s job.value.auto job.value.handle job.value.kernel job.value.args.items job.value.cut job.value.defer job.value.waive.items
    job.value.after.items (no_cause_given s (is_parallel g job.value.kernel) job.value.auto _ job.value.after.items none).temp k
effect_unused g line s (Dispose name after None) none k = record { at = k.at }
effect_unused g line s (Dispose name after (Some handle)) none k = record { at = k.at }
effect_unused g line s x none k = record { at = k.at }

decided_unused : (o : Option Refused) (g : Setting) (s : ScriptState) (x : Statement) → s.passing ≡ 0 → refusal g s x.act ≡ o → TempsAreUnused s
    → TempsAreUnused (decided o g s x)
decided_unused None g s x passing h k = effect_unused g x.line s x.act h k
decided_unused (Some r) g s x passing h k = let like = refused_like g s x r passing h in alike_unused s _ (record { life = like.life; uses = like.uses }) k

act_unused : (n : ℕ) (g : Setting) (s : ScriptState) (x : Statement) → s.passing ≡ n → TempsAreUnused s → TempsAreUnused (act_or_pass n g s x)
act_unused zero g s x passing k = decided_unused (refusal g s x.act) g s x passing refl k
act_unused (suc n) g s x passing k = record { at = k.at }

all_unused : (g : Setting) (xs : List Statement) (s : ScriptState) → TempsAreUnused s → TempsAreUnused (act_all g xs s)
all_unused g [] s k = k
all_unused g (x ∷ more) s k = all_unused g more (act g s x) (act_unused s.passing g s x refl k)

pub temps_have_no_users : TempsHaveNoUsers
temps_have_no_users g xs = (all_unused g xs at_start (record { at = λ c j temp. refl })).at
