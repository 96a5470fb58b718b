-- A statement keeps the form of each container, but that `setcapacity` gives a list its new capacity.
use Rattle.std.proofs.Common.{◌≡◌, refl, sym, ap, ◌∙◌, ℕ, ◌+◌, ◌<◌, true, false, [], ◌∷◌, Option, None, Some, slice_get, Result, Ok, Err, arith}
use Rattle.std.specs.Prelude.{nat_eq, nat_lt, if◌then◌else◌}
use Rattle.std.proofs.lemmas.Bool.{eqb-true, and_parts}
use Rattle.job_base.specs.declared.Trap.{Trap}
use Rattle.job_base.specs.declared.Trap.TheVariants.{Range}
use Rattle.frame_ast.specs.declared.script.Order.{Order}
use Rattle.frame_ast.specs.declared.script.Order.TheVariants.{Array, Column, List as NewList, Reference, Map, Stream, Set, Add, Put, Remove, Clear, SetCapacity, Schedule, Dispose}
use Rattle.frame_ast.specs.Contents.{Contents, Cells, Single, Items, Pairs, Entries, cleared}
use Rattle.frame_ast.specs.Jobs.{nobody}
use Rattle.frame_ast.specs.States.{ScriptState, with_at, container_at, contents_at}
use Rattle.frame_ast.specs.Schedules.{need_of}
use Rattle.frame_ast.specs.Refusals.{Refused, disposed, stale, pending, store_full, unchanged}
use Rattle.frame_ast.specs.Orders.{Setting, setting, new_list, add_in, capacity_in}
use Rattle.frame_ast.specs.Checks.{refusal}
use Rattle.frame_ast.specs.Effects.{effect, changed, views_broken, list_broken}
use Rattle.frame_ast.specs.declared.name_kind.NameKind.{NameKind}
use Rattle.frame_ast.specs.declared.name_kind.NameKind.TheVariants.{List as ListName, Handle as HandleName}
use Rattle.frame_ast.specs.Accepted.{Names, set_kinds, makes, uses, order_fits}
use Rattle.frame_ast.specs.Forms.{form_of, form_after, StatementsKeepForms}
use Rattle.frame_ast.specs.Kinds.{kind_of, IsOfKind, HoldsKinds}
use Rattle.frame_ast.proofs.Forms.{Keeps, put_pair_kept, remove_kept, cleared_kept}
use Rattle.frame_ast.proofs.Keeping.{RunsKeep, runs_keep}
use Rattle.frame_ast.proofs.Naming.{one_kind, is_used, args_of, fits_there}
use Rattle.frame_ast.proofs.Leaving.{accept_after}
use Rattle.frame_ast.proofs.NameKinds.{first_none, lives, whole_kind, set_stays, add_stays, names_keep_their_kinds}

made_form : (s : ScriptState) (contents : Contents) (c : ℕ) → c < s.made → form_of (with_at s.contents s.made contents c) ≡ form_of (s.contents c)
made_form s contents c below =
    elim (nat_eq c s.made) as (λ b. nat_eq c s.made ≡ b → form_of (if b then contents else s.contents c) ≡ form_of (s.contents c)) [
      | true ↦ λ e. let same : c ≡ s.made = eqb-true c s.made e in absurd (omega arith)
      | false ↦ λ e. refl
    ] refl

changed_form : (name : ℕ) (r : Result Contents Trap) (s : ScriptState) (c : ℕ) → Keeps (contents_at s name) r
    → form_of ((changed name r s).contents c) ≡ form_of (s.contents c)
changed_form name (Ok new) s c k =
    elim (nat_eq c (container_at s name)) as (λ b. nat_eq c (container_at s name) ≡ b → form_of (if b then new else s.contents c) ≡ form_of (s.contents c)) [
      | true ↦ λ e. k.form ∙ ap (λ m. form_of (s.contents m)) (sym (eqb-true c (container_at s name) e))
      | false ↦ λ e. refl
    ] refl
changed_form name (Err t) s c k = refl

-- broken views change no contents
list_same : (held : Contents) (n : ℕ) (s : ScriptState) → (list_broken held n s).contents ≡ s.contents
list_same (Cells xs) n s = refl
list_same (Single z) n s = refl
list_same (Items cap xs) n s = refl
list_same (Pairs cap ps) n s = refl
list_same (Entries room es) n s = refl

views_form : (name : ℕ) (s : ScriptState) (c : ℕ) (form : Contents) → form_of (s.contents c) ≡ form → form_of ((views_broken name s).contents c) ≡ form
views_form name s c form is = ap (λ f. form_of (f c)) (list_same (contents_at s name) (container_at s name) s) ∙ is

-- `setcapacity`

capacity_form : (name cap : ℕ) (held : Contents) (s : ScriptState) (c : ℕ) → kind_of held ≡ ListName → unchanged name (capacity_in held cap) ≡ None
    → form_of ((changed name (capacity_in held cap) s).contents c) ≡ (if nat_eq c (container_at s name) then new_list cap else form_of (s.contents c))
capacity_form name cap (Cells xs) s c is none = absurd cc
capacity_form name cap (Single z) s c is none = absurd cc
capacity_form name cap (Items old xs) s c is none =
    elim (nat_lt cap old) as (λ b. unchanged name (if b then Err Range else Ok (Items cap xs)) ≡ None
    → form_of ((changed name (if b then Err Range else Ok (Items cap xs)) s).contents c) ≡
    (if nat_eq c (container_at s name) then new_list cap else form_of (s.contents c))) [
      | true ↦ λ none. absurd cc
      | false ↦ λ none. elim (nat_eq c (container_at s name)) as (λ b. form_of (if b then Items cap xs else s.contents c) ≡
          (if b then new_list cap else form_of (s.contents c))) [ true ↦ refl | false ↦ refl ]
    ] none
capacity_form name cap (Pairs size ps) s c is none = absurd cc
capacity_form name cap (Entries room es) s c is none = absurd cc

setcapacity_form : (g : Setting) (line : ℕ) (s : ScriptState) (kind : NameKind) (name cap c : ℕ) → kind ≡ ListName → IsOfKind s kind (s.values name)
    → refusal g s (SetCapacity name cap) ≡ None → form_of ((effect g line s (SetCapacity name cap)).contents c) ≡ form_after s (SetCapacity name cap) c
setcapacity_form g line s kind name cap c list is none =
    let gone : Option Refused = disposed s (name ∷ []) in
    let old : Option Refused = stale s (name ∷ []) in
    let waits : Option Refused = pending s nobody (need_of s name true ∷ []) in
    let full : Option Refused = store_full s (cap + 1) name in
    let fails : Option Refused = unchanged name (capacity_in (contents_at s name) cap) in
    let after_gone = first_none gone (old ∷ waits ∷ full ∷ fails ∷ []) none in
    let after_old = first_none old (waits ∷ full ∷ fails ∷ []) after_gone.1 in
    let after_waits = first_none waits (full ∷ fails ∷ []) after_old.1 in
    let after_full = first_none full (fails ∷ []) after_waits.1 in
    let after_fails = first_none fails [] after_full.1 in
    let whole : kind_of (contents_at s name) ≡ kind = whole_kind s kind (s.values name) (lives s name after_gone.0) is (λ e. absurd cc) (λ e. absurd cc) in
    views_form name (changed name (capacity_in (contents_at s name) cap) s) c _ (capacity_form name cap (contents_at s name) s c (whole ∙ list) after_fails.0)

-- each statement

effect_form : (g : Setting) → RunsKeep g.runs → (line : ℕ) (ns : Names) (rest inside : ℕ) (s : ScriptState) (x : Order)
    → order_fits ns g.literals g.kernels rest inside x ≡ true → refusal g s x ≡ None → HoldsKinds ns.kinds s → (c : ℕ) → c < s.made
    → form_of ((effect g line s x).contents c) ≡ form_after s x c
effect_form g keep line ns rest inside s (Array name len life values) fits none k c below = made_form s _ c below
effect_form g keep line ns rest inside s (Column name column life) fits none k c below = made_form s _ c below
effect_form g keep line ns rest inside s (NewList name cap life) fits none k c below = made_form s _ c below
effect_form g keep line ns rest inside s (Reference name life value) fits none k c below = made_form s _ c below
effect_form g keep line ns rest inside s (Map name cap life) fits none k c below = made_form s _ c below
effect_form g keep line ns rest inside s (Stream name count room life) fits none k c below = made_form s _ c below
effect_form g keep line ns rest inside s (Set name at value) fits none k c below =
    let used = is_used ns name (set_kinds at) fits in
    changed_form name _ s c (set_stays s used.kind (s.values name) at value (k.names name used.kind used.at) (k.containers (container_at s name)))
effect_form g keep line ns rest inside s (Add name first second) fits none k c below =
    views_form name (changed name (add_in (contents_at s name) first second) s) c _
    (changed_form name _ s c (add_stays (contents_at s name) first second (k.containers (container_at s name))))
effect_form g keep line ns rest inside s (Put name key value) fits none k c below =
    changed_form name _ s c (put_pair_kept key value (contents_at s name) (k.containers (container_at s name)))
effect_form g keep line ns rest inside s (Remove name at) fits none k c below =
    views_form name (changed name _ s) c _ (changed_form name _ s c (remove_kept at (contents_at s name) (k.containers (container_at s name))))
effect_form g keep line ns rest inside s (Clear name) fits none k c below =
    views_form name (changed name (Ok (cleared (contents_at s name))) s) c _
    (changed_form name (Ok (cleared (contents_at s name))) s c (cleared_kept (contents_at s name) (k.containers (container_at s name))))
effect_form g keep line ns rest inside s (SetCapacity name cap) fits none k c below =
    let used = is_used ns name (ListName ∷ []) (and_parts (uses ns name (ListName ∷ [])) _ fits).0 in
    setcapacity_form g line s used.kind name cap c (one_kind used.kind ListName used.fits) (k.names name used.kind used.at) none
effect_form g keep line ns rest inside s (Schedule job) fits none k c below =
    let both = and_parts (makes ns job.value.handle HandleName) _ fits in
    ((accept_after g keep ns s job.value.auto job.value.handle job.value.kernel job.value.args.items job.value.cut job.value.defer job.value.waive.items
    job.value.after.items (args_of ns (slice_get g.kernels job.value.kernel) job.value.args.items job.value.cut job.value.defer job.value.waive.items
    job.value.after.items both.1) k).contents c).form
effect_form g keep line ns rest inside s (Dispose name after None) fits none k c below = refl
effect_form g keep line ns rest inside s (Dispose name after (Some handle)) fits none k c below = refl
effect_form g keep line ns rest inside s x fits none k c below = refl

pub statements_keep_forms : StatementsKeepForms
statements_keep_forms script is table n x at none =
    let g : Setting = setting script table in
    let fits = fits_there g is.kinds 0 0 script.statements.items n x is.fits at in
    effect_form g (runs_keep script.kernels.items is.kernels) x.line (record { kinds = is.kinds; made = fits.made }) fits.rest fits.inside _ x.act fits.fits
    none (names_keep_their_kinds script is table n)
