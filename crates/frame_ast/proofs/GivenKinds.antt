-- The arguments of an accepted schedule fit the parameters.
use Rattle.std.proofs.Common.{◌≡◌, refl, ◌∙◌, ℕ, Bool, true, false, List, [], ◌∷◌, ◌++◌, map, Option, None, Some, slice_get}
use Rattle.std.specs.Prelude.{not, cond, find, option_map}
use Rattle.std.specs.List.{list_any}
use Rattle.std.proofs.lemmas.Bool.{and_parts, not-false, false≢true}
use Rattle.job_base.specs.declared.Refusal.{Refusal}
use Rattle.job_base.specs.declared.Refusal.TheVariants.{Disposed}
use Rattle.frame_ast.specs.declared.kernel.ParamKind.{ParamKind}
use Rattle.frame_ast.specs.declared.kernel.ParamKind.TheVariants.{Int, Array as KindArray, List as KindList, Ref, Map as KindMap, Stream as KindStream}
use Rattle.frame_ast.specs.declared.kernel.Param.{Param}
use Rattle.frame_ast.specs.declared.script.Arg.{Arg}
use Rattle.frame_ast.specs.declared.script.Arg.TheVariants.{Name, Number}
use Rattle.frame_ast.specs.declared.script.Order.{Order}
use Rattle.frame_ast.specs.declared.script.Order.TheVariants.{Schedule}
use Rattle.frame_ast.specs.States.{Value, ScriptState, container_of, is_alive}
use Rattle.frame_ast.specs.Schedules.{Given, given_args, given_length, givens, seen_as, arguments_of}
use Rattle.frame_ast.specs.Refusals.{refused, disposed}
use Rattle.frame_ast.specs.Orders.{Setting, setting, params_of}
use Rattle.frame_ast.specs.Checks.{refusal}
use Rattle.frame_ast.specs.declared.name_kind.NameKind.{NameKind}
use Rattle.frame_ast.specs.declared.name_kind.NameKind.TheVariants.{List as ListName, Reference as RefName, Map as MapName, Stream as StreamName, Handle as HandleName}
use Rattle.frame_ast.specs.Accepted.{same_kind, Names, kinds_for, is_int, is_deferred, makes, arg_fits, args_fit, order_fits}
use Rattle.frame_ast.specs.Kinds.{kind_of, IsOfKind, HoldsKinds, kind_given, FitKinds, ArgumentsFit, SchedulesFit}
use Rattle.frame_ast.proofs.Naming.{one_kind, is_used, args_of, fits_there}
use Rattle.frame_ast.proofs.NameKinds.{first_none, whole_kind, names_keep_their_kinds}

-- what a name stands for, where it lives, fits the kinds of a parameter
seen_kind : (kind : ParamKind) (deferred : Bool) (s : ScriptState) (k : NameKind) (v : Value) → list_any (same_kind k) (kinds_for kind deferred) ≡ true
    → is_alive s v ≡ true → IsOfKind s k v → kind_of (seen_as kind v (s.contents (container_of v))) ≡ kind_given kind
seen_kind Int deferred s k v fits alive is = absurd (false≢true fits)
seen_kind KindArray deferred s k v fits alive is = refl
seen_kind KindList deferred s k v fits alive is =
    let list = one_kind k ListName fits in whole_kind s k v alive is (λ e. absurd cc) (λ e. absurd cc) ∙ list
seen_kind Ref deferred s k v fits alive is =
    let ref = one_kind k RefName fits in whole_kind s k v alive is (λ e. absurd cc) (λ e. absurd cc) ∙ ref
seen_kind KindMap deferred s k v fits alive is =
    let map_ = one_kind k MapName fits in whole_kind s k v alive is (λ e. absurd cc) (λ e. absurd cc) ∙ map_
seen_kind KindStream deferred s k v fits alive is =
    let stream = one_kind k StreamName fits in whole_kind s k v alive is (λ e. absurd cc) (λ e. absurd cc) ∙ stream

number_kind : (kind : ParamKind) → is_int kind ≡ true → RefName ≡ kind_given kind
number_kind Int h = refl
number_kind KindArray h = absurd (false≢true h)
number_kind KindList h = absurd (false≢true h)
number_kind Ref h = refl
number_kind KindMap h = absurd (false≢true h)
number_kind KindStream h = absurd (false≢true h)

abbrev dead : ScriptState → ℕ → Bool
dead s n = not (is_alive s (s.values n))

abbrev name_of : Given → ℕ
name_of v = v.need.name

pub none_found : (test : ℕ → Bool) (n : ℕ) (more : List ℕ) → find test (n ∷ more) ≡ None → (test n ≡ false) × (find test more ≡ None)
none_found test n more = elim (test n) as (λ b. cond b (Some n) (find test more) ≡ None
    → (b ≡ false) × (find test more ≡ None)) [ true ↦ λ h. absurd cc | false ↦ λ h. (refl, h) ]

pub none_named : (cause : Refusal) (o : Option ℕ) → option_map (refused cause) o ≡ None → o ≡ None
none_named cause None h = refl
none_named cause (Some n) h = absurd cc

args_kinds : (ns : Names) (s : ScriptState) → HoldsKinds ns.kinds s → (defer : Option (ℕ × ℕ)) (more : List Given) (params : List Param) (args : List Arg)
    → args_fit ns defer params args ≡ true → find (dead s) (map name_of (given_args s params args ++ more)) ≡ None
    → FitKinds params (arguments_of s params args)
args_kinds ns s k defer more [] [] fits alive = tt
args_kinds ns s k defer more [] (a ∷ as_) fits alive = absurd (false≢true fits)
args_kinds ns s k defer more (p ∷ ps) [] fits alive = absurd (false≢true fits)
args_kinds ns s k defer more (p ∷ ps) (Name n ∷ as_) fits alive =
    let both = and_parts (arg_fits ns defer p (Name n)) (args_fit ns defer ps as_) fits in
    let used = is_used ns n (kinds_for p.kind (is_deferred defer n)) both.0 in
    let found = none_found (dead s) n (map name_of (given_args s ps as_ ++ more)) alive in (
      seen_kind p.kind (is_deferred defer n) s used.kind (s.values n) used.fits (not-false (is_alive s (s.values n)) found.0) (k.names n used.kind used.at),
      args_kinds ns s k defer more ps as_ both.1 found.1,
    )
args_kinds ns s k defer more (p ∷ ps) (Number z ∷ as_) fits alive =
    let both = and_parts (arg_fits ns defer p (Number z)) (args_fit ns defer ps as_) fits in
    (number_kind p.kind both.0, args_kinds ns s k defer more ps as_ both.1 alive)

arguments_fit : (g : Setting) (ns : Names) (rest inside : ℕ) (s : ScriptState) (x : Order) → order_fits ns g.literals g.kernels rest inside x ≡ true
    → refusal g s x ≡ None → HoldsKinds ns.kinds s → ArgumentsFit g s x
arguments_fit g ns rest inside s (Schedule job) fits none k =
    let params : List Param = params_of g job.value.kernel in
    let both = and_parts (makes ns job.value.handle HandleName) _ fits in
    let alive = none_named Disposed _ (first_none (disposed s (map name_of (givens s params job.value.args.items job.value.defer))) _ none).0 in
    args_kinds ns s k job.value.defer (given_length s job.value.defer) params job.value.args.items
    (args_of ns (slice_get g.kernels job.value.kernel) job.value.args.items job.value.cut job.value.defer job.value.waive.items job.value.after.items
    both.1) alive
arguments_fit g ns rest inside s x fits none k = tt

pub schedules_fit : SchedulesFit
schedules_fit script is table n x at none =
    let g : Setting = setting script table in
    let fits = fits_there g is.kinds 0 0 script.statements.items n x is.fits at in
    arguments_fit g (record { kinds = is.kinds; made = fits.made }) fits.rest fits.inside _ x.act fits.fits none (names_keep_their_kinds script is table n)
