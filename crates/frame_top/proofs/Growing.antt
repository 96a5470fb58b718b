-- A statement adds lines, and at most one job.
use Rattle.std.proofs.Common.{◌≡◌, refl, sym, ap, ◌∙◌, ℕ, zero, suc, ◌+◌, ◌≤◌, Bool, true, false, List, [], ◌∷◌, ◌++◌, length, take, drop, Option, None, Some, Result, Ok, Err, append-nil, arith}
use Rattle.std.specs.Prelude.{if◌then◌else◌, ◌&&◌}
use Rattle.std.proofs.lemmas.List.{append_assoc}
use Rattle.job_base.specs.declared.Trap.{Trap}
use Rattle.frame_ast.specs.declared.kernel.Param.{Param}
use Rattle.frame_ast.specs.declared.script.Arg.{Arg}
use Rattle.frame_ast.specs.declared.script.Arg.TheVariants.{Name, Number}
use Rattle.frame_ast.specs.declared.script.Order.{Order}
use Rattle.frame_ast.specs.declared.script.Order.TheVariants.{Array, Column, List as NewList, Reference, Map, Stream, Slice, View, Copy, Set, Add, Put, Remove, Clear, SetCapacity, Schedule, Combine, Complete, CompleteAuto, Dispose, DisposeAuto, Print, Flush, Frame, When}
use Rattle.frame_ast.specs.declared.script.Script.{Script}
use Rattle.frame_ast.specs.declared.script.Statement.{Statement}
use Rattle.frame_ast.specs.Contents.{Contents, Cells, Single, Items, Pairs, Entries, cleared}
use Rattle.frame_ast.specs.Effects.{list_broken, views_broken, lost, refuse, changed, all_broken, effect, breaks_views, view_broken, regrown}
use Rattle.frame_ast.specs.Orders.{Table, Setting, setting, set_in, add_in, put_pair_in, remove_in, capacity_in, params_of}
use Rattle.frame_ast.specs.Refusals.{Refused}
use Rattle.frame_ast.specs.Checks.{refusal}
use Rattle.frame_ast.specs.Schedules.{Given, leave, leave_all, writes_to, is_list, givens}
use Rattle.frame_ast.specs.Scripts.{decided, act_or_pass, act, act_all, final, output_of}
use Rattle.frame_ast.specs.States.{ScriptState, at_start, container_at, contents_at}
use Rattle.frame_ast.specs.Texts.{traps_text}
use Rattle.plan_state.specs.Steps.{state_at}

-- WHAT STAYS

-- neither lines nor jobs come
record Stays (s t : ScriptState) : Type 0 where
  lines : t.lines ≡ s.lines
  count : t.book.count ≡ s.book.count

stays_itself : (s : ScriptState) → Stays s s
stays_itself s = record { lines = refl; count = refl }

stays_after : (s t u : ScriptState) → Stays s t → Stays t u → Stays s u
stays_after s t u a b = record { lines = b.lines ∙ a.lines; count = b.count ∙ a.count }

list_broken_stays : (held : Contents) (c : ℕ) (s : ScriptState) → Stays s (list_broken held c s)
list_broken_stays (Cells xs) c s = stays_itself s
list_broken_stays (Single z) c s = stays_itself s
list_broken_stays (Items cap xs) c s = record { lines = refl; count = refl }
list_broken_stays (Pairs cap ps) c s = stays_itself s
list_broken_stays (Entries room es) c s = stays_itself s

views_broken_stays : (name : ℕ) (s : ScriptState) → Stays s (views_broken name s)
views_broken_stays name s = list_broken_stays (contents_at s name) (container_at s name) s

changed_stays : (name : ℕ) (r : Result Contents Trap) (s : ScriptState) → Stays s (changed name r s)
changed_stays name (Ok c) s = record { lines = refl; count = refl }
changed_stays name (Err t) s = stays_itself s

changed_broken_stays : (name : ℕ) (r : Result Contents Trap) (s : ScriptState) → Stays s (views_broken name (changed name r s))
changed_broken_stays name r s = stays_after s (changed name r s) (views_broken name (changed name r s)) (changed_stays name r s)
    (views_broken_stays name (changed name r s))

leave_by : (b : Bool) (s t : ScriptState) → Stays s t → Stays s (if b then t else s)
leave_by true s t a = a
leave_by false s t a = stays_itself s

leave_stays : (p : Param) (a : Arg) (new : Contents) (s : ScriptState) → Stays s (leave p a new s)
leave_stays p (Name n) new s = leave_by (writes_to p.access) s _ (record { lines = refl; count = refl })
leave_stays p (Number z) new s = stays_itself s

leave_all_stays : (ps : List Param) (args : List Arg) (news : List Contents) (s : ScriptState) → Stays s (leave_all ps args news s)
leave_all_stays [] args news s = stays_itself s
leave_all_stays (p ∷ ps) [] news s = stays_itself s
leave_all_stays (p ∷ ps) (a ∷ args) [] s = stays_itself s
leave_all_stays (p ∷ ps) (a ∷ args) (new ∷ news) s =
    stays_after s (leave p a new s) (leave_all ps args news (leave p a new s)) (leave_stays p a new s) (leave_all_stays ps args news (leave p a new s))

all_broken_stays : (gs : List Given) (s : ScriptState) → Stays s (all_broken gs s)
all_broken_stays [] s = stays_itself s
all_broken_stays (g ∷ more) s =
    let t : ScriptState = if is_list g.kind && g.need.writes then view_broken g.need.container s else s in
    stays_after s t (all_broken more t) (leave_by (is_list g.kind && g.need.writes) s (view_broken g.need.container s) (record { lines = refl; count = refl }))
    (all_broken_stays more t)

-- WHAT COMES

pub record Grows (s t : ScriptState) : Type 0 where
  pub more : List ℕ
  pub lines : t.lines ≡ s.lines ++ more
  pub count : t.book.count ≤ s.book.count + 1

stays_grows : (s t : ScriptState) → Stays s t → Grows s t
stays_grows s t a = record { more = []; lines = a.lines ∙ sym (append-nil s.lines); count = let e = a.count in omega arith }

with_lines : (s t : ScriptState) (more : List ℕ) → t.lines ≡ s.lines ++ more → t.book.count ≡ s.book.count → Grows s t
with_lines s t more e c = record { more = more; lines = e; count = omega arith }

effect_grows : (g : Setting) (line : ℕ) (s : ScriptState) (x : Order) → Grows s (effect g line s x)
effect_grows g line s (Array name len life values) = stays_grows s _ (record { lines = refl; count = refl })
effect_grows g line s (Column name column life) = stays_grows s _ (record { lines = refl; count = refl })
effect_grows g line s (NewList name cap life) = stays_grows s _ (record { lines = refl; count = refl })
effect_grows g line s (Reference name life value) = stays_grows s _ (record { lines = refl; count = refl })
effect_grows g line s (Map name cap life) = stays_grows s _ (record { lines = refl; count = refl })
effect_grows g line s (Stream name count room life) = stays_grows s _ (record { lines = refl; count = refl })
effect_grows g line s (Slice name of start len) = stays_grows s _ (record { lines = refl; count = refl })
effect_grows g line s (View name of) = stays_grows s _ (record { lines = refl; count = refl })
effect_grows g line s (Copy name of) = stays_grows s _ (record { lines = refl; count = refl })
effect_grows g line s (Set name at value) = stays_grows s _ (changed_stays name (set_in (s.values name) (contents_at s name) at value) s)
effect_grows g line s (Add name first second) = stays_grows s _ (changed_broken_stays name (add_in (contents_at s name) first second) s)
effect_grows g line s (Put name key value) = stays_grows s _ (changed_stays name (put_pair_in (contents_at s name) key value) s)
effect_grows g line s (Remove name at) = stays_grows s _ (changed_broken_stays name (remove_in (contents_at s name) at) s)
effect_grows g line s (Clear name) = stays_grows s _ (changed_broken_stays name (Ok (cleared (contents_at s name))) s)
effect_grows g line s (SetCapacity name cap) =
    let t : ScriptState = views_broken name (changed name (capacity_in (contents_at s name) cap) s) in
    let a : Stays s t = changed_broken_stays name (capacity_in (contents_at s name) cap) s in
    stays_grows s (regrown name cap t) (record { lines = a.lines; count = a.count })
effect_grows g line s (Schedule job) = record {
  more = [];
  lines = (stays_after s _ _ (leave_all_stays (params_of g job.value.kernel) job.value.args.items _ s)
      (all_broken_stays (givens s (params_of g job.value.kernel) job.value.args.items job.value.defer) _)).lines ∙ sym (append-nil s.lines);
  count = omega arith;
}
effect_grows g line s (Combine name of) = stays_grows s _ (record { lines = refl; count = refl })
effect_grows g line s (Complete name) = stays_grows s _ (record { lines = refl; count = refl })
effect_grows g line s (CompleteAuto name) = stays_grows s _ (record { lines = refl; count = refl })
effect_grows g line s (Dispose name after None) = stays_grows s _ (record { lines = refl; count = refl })
effect_grows g line s (Dispose name after (Some handle)) = stays_grows s _ (record { lines = refl; count = refl })
effect_grows g line s (DisposeAuto name handle) = stays_grows s _ (record { lines = refl; count = refl })
effect_grows g line s (Print name) = with_lines s _ _ refl refl
effect_grows g line s Flush = stays_grows s s (stays_itself s)
effect_grows g line s Frame = with_lines s _ _ refl refl
effect_grows g line s (When name sign value count) = stays_grows s _ (record { lines = refl; count = refl })

broken_by_stays : (b : Bool) (name : ℕ) (s : ScriptState) → Stays s (if b then views_broken name s else s)
broken_by_stays b name s = leave_by b s (views_broken name s) (views_broken_stays name s)

lost_count : (g : Setting) (r : Refused) (x : Order) (s : ScriptState) → (lost r.cause x s).book.count ≡ s.book.count
lost_count g r (Array name len life values) s = refl
lost_count g r (Column name column life) s = refl
lost_count g r (NewList name cap life) s = refl
lost_count g r (Reference name life value) s = refl
lost_count g r (Map name cap life) s = refl
lost_count g r (Stream name count room life) s = refl
lost_count g r (Slice name of start len) s = refl
lost_count g r (View name of) s = refl
lost_count g r (Copy name of) s = refl
lost_count g r (Set name at value) s = refl
lost_count g r (Add name first second) s = (broken_by_stays (breaks_views r.cause) name s).count
lost_count g r (Put name key value) s = refl
lost_count g r (Remove name at) s = (broken_by_stays (breaks_views r.cause) name s).count
lost_count g r (Clear name) s = refl
lost_count g r (SetCapacity name cap) s = (broken_by_stays (breaks_views r.cause) name s).count
lost_count g r (Schedule job) s = refl
lost_count g r (Combine name of) s = refl
lost_count g r (Complete name) s = refl
lost_count g r (CompleteAuto name) s = refl
lost_count g r (Dispose name after None) s = refl
lost_count g r (Dispose name after (Some handle)) s = refl
lost_count g r (DisposeAuto name handle) s = refl
lost_count g r (Print name) s = refl
lost_count g r Flush s = refl
lost_count g r Frame s = refl
lost_count g r (When name sign value count) s = refl

decided_grows : (o : Option Refused) (g : Setting) (s : ScriptState) (x : Statement) → Grows s (decided o g s x)
decided_grows None g s x = effect_grows g x.line s x.act
decided_grows (Some r) g s x = with_lines s (refuse g s x r) _ refl (lost_count g r x.act s)

act_grows_by : (passing : ℕ) (g : Setting) (s : ScriptState) (x : Statement) → Grows s (act_or_pass passing g s x)
act_grows_by zero g s x = decided_grows (refusal g s x.act) g s x
act_grows_by (suc more) g s x = stays_grows s _ (record { lines = refl; count = refl })

pub act_grows : (g : Setting) (s : ScriptState) (x : Statement) → Grows s (act g s x)
act_grows g s x = act_grows_by s.passing g s x

-- SCRIPTS

pub act_all_lines : (g : Setting) (xs : List Statement) (s : ScriptState) → (more : List ℕ) × ((act_all g xs s).lines ≡ s.lines ++ more)
act_all_lines g [] s = ([], sym (append-nil s.lines))
act_all_lines g (x ∷ xs) s =
    let one = act_grows g s x in
    let rest = act_all_lines g xs (act g s x) in
    (one.more ++ rest.0, rest.1 ∙ ap (λ l. l ++ rest.0) one.lines ∙ append_assoc s.lines one.more rest.0)

act_all_count : (g : Setting) (xs : List Statement) (s : ScriptState) → (act_all g xs s).book.count ≤ s.book.count + length xs
act_all_count g [] s = omega arith
act_all_count g (x ∷ xs) s =
    let one = (act_grows g s x).count in
    let rest = act_all_count g xs (act g s x) in
    omega arith

split_act : (g : Setting) (n : ℕ) (xs : List Statement) (s : ScriptState) → act_all g xs s ≡ act_all g (drop n xs) (act_all g (take n xs) s)
split_act g zero xs s = refl
split_act g (suc n) [] s = refl
split_act g (suc n) (x ∷ xs) s = split_act g n xs (act g s x)

-- the lines so far are first lines of the output
pub lines_begin : (script : Script) (table : Table) (n : ℕ) → (more : List ℕ) × (output_of script table ≡ (state_at script table n).lines ++ more)
lines_begin script table n =
    let g = setting script table in
    let xs = script.statements.items in
    let rest = act_all_lines g (drop n xs) (state_at script table n) in
    let all : (final g xs).lines ≡ (state_at script table n).lines ++ rest.0 = ap (λ (s : ScriptState). s.lines) (split_act g n xs at_start) ∙ rest.1 in (
      rest.0 ++ traps_text (final g xs).traps,
      ap (λ l. l ++ traps_text (final g xs).traps) all
          ∙ append_assoc (state_at script table n).lines rest.0 (traps_text (final g xs).traps),
    )

short : {A : Type 0} (n : ℕ) (xs : List A) → length (take n xs) ≤ length xs
short zero xs = omega arith
short (suc n) [] = omega arith
short (suc n) (x ∷ xs) = let rest = short n xs in omega arith

-- no more jobs than statements
pub jobs_few : (script : Script) (table : Table) (n : ℕ) → (state_at script table n).book.count ≤ length script.statements.items
jobs_few script table n =
    let few = act_all_count (setting script table) (take n script.statements.items) at_start in
    let less = short n script.statements.items in
    omega arith
