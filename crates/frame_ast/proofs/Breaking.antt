-- A statement breaks the views of a list once at most.
use Rattle.std.proofs.Common.{◌≡◌, refl, sym, ap, ◌∙◌, subst, ℕ, zero, suc, ◌+◌, ◌≤◌, Bool, true, false, ◌&&◌, ⊎_elim, List, [], ◌∷◌, ◌++◌, length, get_or, Option, None, Some, Result, Ok, Err, arith}
use Rattle.std.specs.Prelude.{nat_eq, not, if◌then◌else◌}
use Rattle.std.specs.List.{list_any}
use Rattle.std.proofs.lemmas.Bool.{and_parts, and_from, eqb-true, eq-eqb, false≢true, or_cases, or_left, or_right}
use Rattle.std.proofs.lemmas.List.Folds.{list_any-append}
use Rattle.job_base.specs.declared.Trap.{Trap}
use Rattle.frame_ast.specs.declared.kernel.ParamKind.{ParamKind}
use Rattle.frame_ast.specs.declared.kernel.ParamKind.TheVariants.{Int, Array as KindArray, List as KindList, Ref, Map as KindMap, Stream as KindStream}
use Rattle.frame_ast.specs.declared.kernel.Param.{Param}
use Rattle.frame_ast.specs.declared.script.Life.{Life}
use Rattle.frame_ast.specs.declared.script.Arg.{Arg}
use Rattle.frame_ast.specs.declared.script.Arg.TheVariants.{Name, Number}
use Rattle.frame_ast.specs.declared.script.Order.{Order}
use Rattle.frame_ast.specs.declared.script.Order.TheVariants.{Array, Column, List as NewList, Reference, Map, Stream, Set, Add, Put, Remove, Clear, SetCapacity, Schedule, Dispose}
use Rattle.frame_ast.specs.declared.script.Statement.{Statement}
use Rattle.frame_ast.specs.Contents.{Contents, Cells, Single, Items, Pairs, Entries, cleared}
use Rattle.frame_ast.specs.States.{ScriptState, at_start, with_at, with_contents, container_at, contents_at}
use Rattle.frame_ast.specs.Schedules.{Given, writes_to, is_array, is_list, givens, arguments_of, left_in, leave_all, widths_from, alias, first_alias}
use Rattle.frame_ast.specs.Refusals.{Refused}
use Rattle.frame_ast.specs.Orders.{Setting, params_of, is_parallel, capacity_in, job_length}
use Rattle.frame_ast.specs.JobRuns.{no_run}
use Rattle.frame_ast.specs.Checks.{refusal}
use Rattle.frame_ast.specs.Effects.{refuse, effect, make, accept, steps_by, changed, view_broken, all_broken, views_broken, list_broken}
use Rattle.frame_ast.specs.Scripts.{decided, act_or_pass, act, act_all}
use Rattle.frame_ast.specs.Laws.{breaks_views_of, ViewNumbersAreFew}
use Rattle.frame_ast.proofs.Refusing.{refused_like}
use Rattle.frame_ast.proofs.Scheduled.{no_alias, no_alias_given}

-- ---- the lists that a job writes

-- whether a value that is a written list is of container c
abbrev breaks : ℕ → Given → Bool
breaks c g = (is_list g.kind && g.need.writes) && nat_eq g.need.container c

no_array : (k : ParamKind) → is_list k ≡ true → is_array k ≡ false
no_array Int h = refl
no_array KindArray h = absurd (false≢true h)
no_array KindList h = refl
no_array Ref h = refl
no_array KindMap h = refl
no_array KindStream h = refl

-- two written lists of one container are aliases
are_aliases : (a b : Given) (c : ℕ) → breaks c a ≡ true → breaks c b ≡ true → alias a b ≡ true
are_aliases a b c p q =
    let in_a = and_parts (is_list a.kind && a.need.writes) (nat_eq a.need.container c) p in
    let in_b = and_parts (is_list b.kind && b.need.writes) (nat_eq b.need.container c) q in
    let list = and_parts (is_list a.kind) a.need.writes in_a.0 in
    let same : a.need.container ≡ b.need.container = eqb-true a.need.container c in_a.1 ∙ sym (eqb-true b.need.container c in_b.1) in
    let equal : nat_eq a.need.container b.need.container ≡ true = eq-eqb a.need.container b.need.container same in
    rw (equal, list.1, no_array a.kind list.0) (by b.is_length)
  where
    by : (n : Bool) → not (n && false) ≡ true
    by true = refl
    by false = refl

any_aliases : (before : List Given) (b : Given) (c : ℕ) → list_any (breaks c) before ≡ true → breaks c b ≡ true → list_any (λ a. alias a b) before ≡ true
any_aliases [] b c h q = h
any_aliases (a ∷ more) b c h q =
    ⊎_elim (λ p. or_left (alias a b) (list_any (λ a. alias a b) more) (are_aliases a b c p q))
    (λ p. or_right (alias a b) (list_any (λ a. alias a b) more) (any_aliases more b c p q)) (or_cases (breaks c a) (list_any (breaks c) more) h)

-- what a view number becomes: a list that was written before is broken no more, and any other one once at most
abbrev Once : List Given → ScriptState → ℕ → ℕ → Type 0
Once before s c v = (list_any (breaks c) before ≡ true → v ≡ s.view c) × (v ≤ s.view c + 1)

step_over : (before : List Given) (g : Given) (s : ScriptState) (c v : ℕ) → Once (before ++ g ∷ []) s c v → Once before s c v
step_over before g s c v rest =
    (λ t. rest.0 (list_any-append (breaks c) before (g ∷ []) ∙ or_left (list_any (breaks c) before) _ t), rest.1)

at_written : (before : List Given) (g : Given) (s : ScriptState) (c v : ℕ) → (is_list g.kind && g.need.writes) ≡ true → list_any (λ a. alias a g) before ≡ false
    → Once (before ++ g ∷ []) (view_broken g.need.container s) c v → Once before s c v
at_written before g s c v is none rest =
    elim (nat_eq c g.need.container) as (λ b. nat_eq c g.need.container ≡ b → Once before s c v) [
      | true ↦ λ e.
          let same : c ≡ g.need.container = eqb-true c g.need.container e in
          let here : breaks c g ≡ true = and_from (is_list g.kind && g.need.writes) (nat_eq g.need.container c) is (eq-eqb g.need.container c (sym same)) in
          let found : list_any (breaks c) (before ++ g ∷ []) ≡ true = list_any-append (breaks c) before (g ∷ [])
          ∙ or_right (list_any (breaks c) before) _ (or_left (breaks c g) false here) in
          let now : v ≡ s.view c + 1 = rest.0 found ∙ ap (λ b. if b then s.view g.need.container + 1 else s.view c) e ∙ ap (λ n. s.view n + 1) (sym same) in
          (λ t. absurd (false≢true (sym none ∙ any_aliases before g c t here)), omega arith)
      | false ↦ λ e.
          let stays : (view_broken g.need.container s).view c ≡ s.view c = ap (λ b. if b then s.view g.need.container + 1 else s.view c) e in
          let over = step_over before g (view_broken g.need.container s) c v rest in
          (λ t. over.0 t ∙ stays, subst (λ n. v ≤ n + 1) stays over.1)
    ] refl

broken_once : (before gs : List Given) (s : ScriptState) (c : ℕ) → first_alias before gs ≡ None → Once before s c ((all_broken gs s).view c)
broken_once before [] s c h = (λ e. refl, omega arith)
broken_once before (g ∷ more) s c h =
    let parts = no_alias before g more h in
    elim (is_list g.kind && g.need.writes) as (λ b. (is_list g.kind && g.need.writes) ≡ b
    → Once before s c ((all_broken more (if b then view_broken g.need.container s else s)).view c)) [
      | true ↦ λ e. at_written before g s c _ e parts.0 (broken_once (before ++ g ∷ []) more (view_broken g.need.container s) c parts.1)
      | false ↦ λ e. step_over before g s c _ (broken_once (before ++ g ∷ []) more s c parts.1)
    ] refl

leave_views : (params : List Param) (args : List Arg) (news : List Contents) (s : ScriptState) → (leave_all params args news s).view ≡ s.view
leave_views [] args news s = refl
leave_views (p ∷ ps) [] news s = refl
leave_views (p ∷ ps) (a ∷ as_) [] s = refl
leave_views (p ∷ ps) (Number z ∷ as_) (new ∷ news) s = leave_views ps as_ news s
leave_views (p ∷ ps) (Name n ∷ as_) (new ∷ news) s =
    elim (writes_to p.access) as (λ b. (leave_all ps as_ news (if b then with_contents (container_at s n)
    (left_in p.kind (s.values n) new (contents_at s n)) s else s)).view ≡ s.view) [
      | true ↦ leave_views ps as_ news (with_contents (container_at s n) (left_in p.kind (s.values n) new (contents_at s n)) s)
      | false ↦ leave_views ps as_ news s
    ]

-- ---- statements

-- each view number rises by one at most
record RisesLittle (s t : ScriptState) : Type 0 where
  at : (c : ℕ) → t.view c ≤ s.view c + 1

stays : (s t : ScriptState) → t.view ≡ s.view → RisesLittle s t
stays s t same = record { at = λ c. subst (λ f. f c ≤ s.view c + 1) (sym same) (omega arith) }

at_one : (f : ℕ → ℕ) (n c : ℕ) → with_at f n (f n + 1) c ≤ f c + 1
at_one f n c = elim (nat_eq c n) as (λ b. nat_eq c n ≡ b → (if b then f n + 1 else f c) ≤ f c + 1) [
  | true ↦ λ e. subst (λ m. f n + 1 ≤ f m + 1) (sym (eqb-true c n e)) (omega arith)
  | false ↦ λ e. omega arith
] refl

list_rises : (held : Contents) (n : ℕ) (s t : ScriptState) → t.view ≡ s.view → RisesLittle s (list_broken held n t)
list_rises (Cells xs) n s t same = stays s t same
list_rises (Single z) n s t same = stays s t same
list_rises (Items cap xs) n s t same = record { at = λ c. subst (λ f. with_at f n (f n + 1) c ≤ s.view c + 1) (sym same) (at_one s.view n c) }
list_rises (Pairs cap ps) n s t same = stays s t same
list_rises (Entries room es) n s t same = stays s t same

changed_views : (name : ℕ) (r : Result Contents Trap) (s : ScriptState) → (changed name r s).view ≡ s.view
changed_views name (Ok c) s = refl
changed_views name (Err t) s = refl

rises : (name : ℕ) (r : Result Contents Trap) (s : ScriptState) → RisesLittle s (views_broken name (changed name r s))
rises name r s = list_rises (contents_at (changed name r s) name) (container_at (changed name r s) name) s (changed name r s) (changed_views name r s)

new_rises : (s : ScriptState) (line name : ℕ) (life : Life) (contents : Contents) → RisesLittle s (make line name life contents s)
new_rises s line name life contents = record {
  at = λ c. elim (nat_eq c s.made) as (λ b. (if b then 0 else s.view c) ≤ s.view c + 1) [ true ↦ omega arith | false ↦ omega arith ];
}

accept_rises : (g : Setting) (s : ScriptState) (auto : Bool) (handle kernel : ℕ) (args : List Arg) (cut defer : Option (ℕ × ℕ)) (waive after : List ℕ)
    → first_alias [] (givens s (params_of g kernel) args defer) ≡ None → RisesLittle s (accept g s auto handle kernel args cut defer waive after)
accept_rises g s auto handle kernel args cut defer waive after none =
    let params = params_of g kernel in
    let ran = get_or g.runs kernel no_run (widths_from (is_parallel g kernel) waive 0 params) (steps_by defer) (job_length s cut defer)
    (arguments_of s params args) in
    let left = leave_all params args ran.store s in
    record {
      at = λ c. subst (λ f. (all_broken (givens s params args defer) left).view c ≤ f c + 1) (leave_views params args ran.store s)
          (broken_once [] (givens s params args defer) left c none).1;
    }

effect_rises : (g : Setting) (line : ℕ) (s : ScriptState) (x : Order) → refusal g s x ≡ None → RisesLittle s (effect g line s x)
effect_rises g line s (Array name len life values) none = new_rises s line name life _
effect_rises g line s (Column name column life) none = new_rises s line name life _
effect_rises g line s (NewList name cap life) none = new_rises s line name life _
effect_rises g line s (Reference name life value) none = new_rises s line name life _
effect_rises g line s (Map name cap life) none = new_rises s line name life _
effect_rises g line s (Stream name count room life) none = new_rises s line name life _
effect_rises g line s (Set name at value) none = stays s _ (changed_views name _ s)
effect_rises g line s (Add name first second) none = rises name _ s
effect_rises g line s (Put name key value) none = stays s _ (changed_views name _ s)
effect_rises g line s (Remove name at) none = rises name _ s
effect_rises g line s (Clear name) none = rises name (Ok (cleared (contents_at s name))) s
effect_rises g line s (SetCapacity name cap) none = record { at = (rises name (capacity_in (contents_at s name) cap) s).at }
effect_rises g line s (Schedule job) none =
    accept_rises g s job.value.auto job.value.handle job.value.kernel job.value.args.items job.value.cut job.value.defer job.value.waive.items
    job.value.after.items (no_alias_given s (is_parallel g job.value.kernel) job.value.auto _ job.value.after.items none)
effect_rises g line s (Dispose name after None) none = stays s _ refl
effect_rises g line s (Dispose name after (Some handle)) none = stays s _ refl
effect_rises g line s x none = stays s _ refl

act_rises : (n : ℕ) (g : Setting) (s : ScriptState) (x : Statement) → s.passing ≡ n → RisesLittle s (act_or_pass n g s x)
act_rises zero g s x passing = decided_rises (refusal g s x.act) refl
  where
    refused_rises : (r : Refused) → refusal g s x.act ≡ Some r → RisesLittle s (refuse g s x r)
    refused_rises r h =
        let like = refused_like g s x r passing h in
        record {
          at = λ c. elim (breaks_views_of r.cause x.act s c) as (λ b. breaks_views_of r.cause x.act s c ≡ b → (refuse g s x r).view c ≤ s.view c + 1) [
            | true ↦ λ e. let up = like.broken c e in omega arith
            | false ↦ λ e. let up = like.views c e in omega arith
          ] refl;
        }

    decided_rises : (o : Option Refused) → refusal g s x.act ≡ o → RisesLittle s (decided o g s x)
    decided_rises None h = effect_rises g x.line s x.act h
    decided_rises (Some r) h = refused_rises r h
act_rises (suc n) g s x passing = stays s _ refl

all_few : (g : Setting) (xs : List Statement) (s : ScriptState) (n c : ℕ) → s.view c ≤ n → (act_all g xs s).view c ≤ n + length xs
all_few g [] s n c few = omega arith
all_few g (x ∷ more) s n c few =
    let up = (act_rises s.passing g s x refl).at c in
    let rest : (act_all g more (act g s x)).view c ≤ (n + 1) + length more = all_few g more (act g s x) (n + 1) c (omega arith) in
    omega arith

pub view_numbers_are_few : ViewNumbersAreFew
view_numbers_are_few g xs c = let few = all_few g xs at_start 0 c (omega arith) in omega arith
