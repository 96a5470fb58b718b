-- What a statement makes and takes is at most what its text says, and never less than nothing.
use Rattle.std.proofs.Common.{◌≡◌, ℕ, zero, suc, ◌+◌, ◌≤◌, ◌⊎◌, inl, inr, Bool, true, false, ◌&&◌, List, [], ◌∷◌, get_or, Option, None, Some, Result, Ok, Err, refl, ap, ◌∙◌, arith}
use Rattle.std.specs.Prelude.{if◌then◌else◌}
use Rattle.job_base.specs.declared.Trap.{Trap}
use Rattle.frame_ast.specs.declared.kernel.Param.{Param}
use Rattle.frame_ast.specs.declared.script.Arg.{Arg}
use Rattle.frame_ast.specs.declared.script.Arg.TheVariants.{Name, Number}
use Rattle.frame_ast.specs.declared.script.Life.{Life}
use Rattle.frame_ast.specs.declared.script.Order.{Order}
use Rattle.frame_ast.specs.declared.script.Order.TheVariants as order
use Rattle.frame_ast.specs.declared.script.Statement.{Statement}
use Rattle.frame_ast.specs.Checks.{refusal}
use Rattle.frame_ast.specs.Contents.{Contents, Cells, Single, Items, Pairs, Entries, words_of, cleared}
use Rattle.frame_ast.specs.Effects.{make, changed, views_broken, list_broken, view_broken, all_broken, steps_by, accept, effect}
use Rattle.frame_ast.specs.Limits.{job_of, words_by}
use Rattle.frame_ast.specs.JobRuns.{no_run}
use Rattle.frame_ast.specs.Orders.{Setting, params_of, is_parallel, job_length}
use Rattle.frame_ast.specs.Refusals.{Refused}
use Rattle.frame_ast.specs.Schedules.{Given, writes_to, is_list, givens, arguments_of, widths_from, left_in, leave, leave_all}
use Rattle.frame_ast.specs.Scripts.{act, act_or_pass, decided}
use Rattle.frame_ast.specs.States.{ScriptState, with_contents, container_at, contents_at}
use Rattle.frame_ast.proofs.Refusing.{refused_like}

pub record Takes (s t : ScriptState) (jobs words : ℕ) : Type 0 where
  pub jobs_from : s.book.count ≤ t.book.count
  pub jobs_to : t.book.count ≤ s.book.count + jobs
  pub words_from : s.created ≤ t.created
  pub words_to : t.created ≤ s.created + words

-- neither jobs nor words
pub takes_none : (s t : ScriptState) (jobs words : ℕ) → t.book.count ≡ s.book.count → t.created ≡ s.created → Takes s t jobs words
takes_none s t jobs words count created = record { jobs_from = omega arith; jobs_to = omega arith; words_from = omega arith; words_to = omega arith }

made_takes : (s : ScriptState) (line name : ℕ) (life : Life) (contents : Contents) → Takes s (make line name life contents s) 0 (words_of contents)
made_takes s line name life contents = record { jobs_from = omega arith; jobs_to = omega arith; words_from = omega arith; words_to = omega arith }

-- STEPS THAT TAKE NOTHING

pub record IsCalm (s t : ScriptState) : Type 0 where
  pub count : t.book.count ≡ s.book.count
  pub created : t.created ≡ s.created

changed_calm : (name : ℕ) (r : Result Contents Trap) (s : ScriptState) → IsCalm s (changed name r s)
changed_calm name (Ok c) s = record { count = refl; created = refl }
changed_calm name (Err t) s = record { count = refl; created = refl }

list_calm : (held : Contents) (c : ℕ) (s : ScriptState) → IsCalm s (list_broken held c s)
list_calm (Cells xs) c s = record { count = refl; created = refl }
list_calm (Single z) c s = record { count = refl; created = refl }
list_calm (Items cap xs) c s = record { count = refl; created = refl }
list_calm (Pairs cap ps) c s = record { count = refl; created = refl }
list_calm (Entries room es) c s = record { count = refl; created = refl }

views_calm : (name : ℕ) (r : Result Contents Trap) (s : ScriptState) → IsCalm s (views_broken name (changed name r s))
views_calm name r s =
    let t = changed name r s in
    let a = changed_calm name r s in
    let b = list_calm (contents_at t name) (container_at t name) t in
    record { count = b.count ∙ a.count; created = b.created ∙ a.created }

calm_takes : (s t : ScriptState) (jobs words : ℕ) → IsCalm s t → Takes s t jobs words
calm_takes s t jobs words c = takes_none s t jobs words c.count c.created

-- a schedule

leave_calm : (p : Param) (a : Arg) (new : Contents) (s : ScriptState) → IsCalm s (leave p a new s)
leave_calm p (Number z) new s = record { count = refl; created = refl }
leave_calm p (Name n) new s =
    elim (writes_to p.access) as (λ b. IsCalm s (if b then with_contents (container_at s n) (left_in p.kind (s.values n) new (contents_at s n)) s else s)) [
      | true ↦ record { count = refl; created = refl }
      | false ↦ record { count = refl; created = refl }
    ]

left_calm : (params : List Param) (args : List Arg) (news : List Contents) (s : ScriptState) → IsCalm s (leave_all params args news s)
left_calm [] args news s = record { count = refl; created = refl }
left_calm (p ∷ ps) [] news s = record { count = refl; created = refl }
left_calm (p ∷ ps) (a ∷ as_) [] s = record { count = refl; created = refl }
left_calm (p ∷ ps) (a ∷ as_) (new ∷ news) s =
    let here = leave_calm p a new s in
    let rest = left_calm ps as_ news (leave p a new s) in
    record { count = rest.count ∙ here.count; created = rest.created ∙ here.created }

broken_calm : (gs : List Given) (s : ScriptState) → IsCalm s (all_broken gs s)
broken_calm [] s = record { count = refl; created = refl }
broken_calm (g ∷ more) s =
    elim (is_list g.kind && g.need.writes) as (λ b. IsCalm s (all_broken more (if b then view_broken g.need.container s else s))) [
      | true ↦ (let rest = broken_calm more (view_broken g.need.container s) in record { count = rest.count; created = rest.created })
      | false ↦ broken_calm more s
    ]

accept_takes : (g : Setting) (s : ScriptState) (auto : Bool) (handle kernel : ℕ) (args : List Arg) (cut defer : Option (ℕ × ℕ)) (waive after : List ℕ)
    → Takes s (accept g s auto handle kernel args cut defer waive after) 1 0
accept_takes g s auto handle kernel args cut defer waive after =
    let params : List Param = params_of g kernel in
    let widths : List ℕ = widths_from (is_parallel g kernel) waive 0 params in
    let news : List Contents = (get_or g.runs kernel no_run widths (steps_by defer) (job_length s cut defer) (arguments_of s params args)).store in
    let a = left_calm params args news s in
    let b = broken_calm (givens s params args defer) (leave_all params args news s) in
    let created : (accept g s auto handle kernel args cut defer waive after).created ≡ s.created = b.created ∙ a.created in
    record { jobs_from = omega arith; jobs_to = omega arith; words_from = omega arith; words_to = omega arith }

-- EACH STATEMENT

effect_takes : (g : Setting) (line : ℕ) (s : ScriptState) (x : Order) → Takes s (effect g line s x) (job_of x) (words_by g x)
effect_takes g line s (order.Array name len life values) = made_takes s line name life _
effect_takes g line s (order.Column name column life) = made_takes s line name life _
effect_takes g line s (order.List name cap life) = made_takes s line name life _
effect_takes g line s (order.Reference name life value) = made_takes s line name life _
effect_takes g line s (order.Map name cap life) = made_takes s line name life _
effect_takes g line s (order.Stream name count room life) = made_takes s line name life _
effect_takes g line s (order.Set name at value) = calm_takes s _ 0 0 (changed_calm name _ s)
effect_takes g line s (order.Add name first second) = calm_takes s _ 0 0 (views_calm name _ s)
effect_takes g line s (order.Put name key value) = calm_takes s _ 0 0 (changed_calm name _ s)
effect_takes g line s (order.Remove name at) = calm_takes s _ 0 0 (views_calm name _ s)
effect_takes g line s (order.Clear name) = calm_takes s _ 0 0 (views_calm name (Ok (cleared (contents_at s name))) s)
effect_takes g line s (order.SetCapacity name cap) =
    let t = effect g line s (order.SetCapacity name cap) in
    let c = views_calm name _ s in
    let created : t.created ≡ s.created + (cap + 1) = ap (λ n. n + (cap + 1)) c.created in
    let count : t.book.count ≡ s.book.count = c.count in
    record { jobs_from = omega arith; jobs_to = omega arith; words_from = omega arith; words_to = omega arith }
effect_takes g line s (order.Schedule job) = accept_takes g s job.value.auto job.value.handle job.value.kernel job.value.args.items job.value.cut
    job.value.defer job.value.waive.items job.value.after.items
effect_takes g line s (order.Dispose name after None) = takes_none s _ 0 0 refl refl
effect_takes g line s (order.Dispose name after (Some handle)) = takes_none s _ 0 0 refl refl
effect_takes g line s (order.Slice name of start len) = takes_none s _ 0 0 refl refl
effect_takes g line s (order.View name of) = takes_none s _ 0 0 refl refl
effect_takes g line s (order.Copy name of) = takes_none s _ 0 0 refl refl
effect_takes g line s (order.Combine name of) = takes_none s _ 0 0 refl refl
effect_takes g line s (order.Complete name) = takes_none s _ 0 0 refl refl
effect_takes g line s (order.CompleteAuto name) = takes_none s _ 0 0 refl refl
effect_takes g line s (order.DisposeAuto name handle) = takes_none s _ 0 0 refl refl
effect_takes g line s (order.Print name) = takes_none s _ 0 0 refl refl
effect_takes g line s order.Flush = takes_none s _ 0 0 refl refl
effect_takes g line s order.Frame = takes_none s _ 0 0 refl refl
effect_takes g line s (order.When name sign value count) = takes_none s _ 0 0 refl refl

decided_takes : (o : Option Refused) (g : Setting) (s : ScriptState) (x : Statement) → s.passing ≡ 0 → refusal g s x.act ≡ o
    → Takes s (decided o g s x) (job_of x.act) (words_by g x.act)
decided_takes None g s x pass e = effect_takes g x.line s x.act
decided_takes (Some r) g s x pass e = let l = refused_like g s x r pass e in takes_none s _ _ _ (ap (λ b. b.count) l.book) l.created

pub act_takes : (g : Setting) (s : ScriptState) (x : Statement) → Takes s (act g s x) (job_of x.act) (words_by g x.act)
act_takes g s x = by s.passing refl
  where
    by : (n : ℕ) → s.passing ≡ n → Takes s (act_or_pass n g s x) (job_of x.act) (words_by g x.act)
    by zero e = decided_takes (refusal g s x.act) g s x e refl
    by (suc more) e = takes_none s _ _ _ refl refl

-- a statement makes a job or takes words, and never both
pub one_of : (g : Setting) (x : Order) → (job_of x ≡ 0) ⊎ (words_by g x ≡ 0)
one_of g (order.Schedule job) = inr refl
one_of g x = inl refl
