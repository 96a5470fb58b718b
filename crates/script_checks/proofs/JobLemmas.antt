-- The parts of a schedule.
use Rattle.std.proofs.Common.{◌≡◌, ℕ, ◌+◌, ◌<◌, ◌≤◌, Bool, cond, nat_lt, List, ◌∷◌, length, drop, get_or, Option, Some, None, sym, ◌∙◌, ap, subst, arith, add-one, drop-cons, suc, ◌&&◌, IfSome}
use Rattle.std.specs.List.{position, slice_get, find}
use Rattle.std.proofs.lemmas.Bool.Decides.{nat_tests}
use Rattle.std.proofs.lemmas.List.{drop_all}
use Rattle.std.proofs.lemmas.List.Folds.{find_at}
use Rattle.std.proofs.lemmas.Option.{slice_get-get_or, slice_get_past}
use Rattle.kernel_raw.specs.declared.fault.StaticFault.{StaticFault}
use Rattle.frame_ast.specs.declared.kernel.Param.{Param}
use Rattle.frame_ast.specs.Lists.{first_some}
use Rattle.script_checks.specs.declared.fault.OrderFault.{OrderFault}
use Rattle.script_text.specs.declared.raw.RawArg.{RawArg}
use Rattle.script_text.specs.declared.raw.RawSizes.{RawSizes}
use Rattle.script_text.specs.declared.source.Source.{Source}
use Rattle.script_names.specs.Names.{Name}
use Rattle.frame_ast.specs.declared.kernel.Kernel.{Kernel}
use Rattle.frame_ast.specs.declared.kernel.FaultKind.TheVariants.{UnknownName, KindMismatch}
use Rattle.frame_ast.specs.Schedules.{is_array, writes_to}
use Rattle.std.specs.Str.{bytes_eq}
use Rattle.std.specs.String.{string_bytes}
use Rattle.script_text.specs.Sources.{text_at}
use Rattle.script_checks.specs.Faults.{unless, waive_fault, waived_fault, arg_fault, args_faults}
use Rattle.script_checks.specs.KernelIndex.{kernel_at}
use Rattle.script_checks.specs.Checks.{Refuses}
use Rattle.script_checks.proofs.FaultLemmas.{first_next, first_end, refuses_here}

place_is : (n len k : ℕ) → cond (nat_lt n len) (Some n) None ≡ Some k → (n ≡ k) × (n < len)
place_is n len k h = grind (arith, nat_tests)

no_place : (n len : ℕ) → cond (nat_lt n len) (Some n) None ≡ None → len ≤ n
no_place n len h = grind (arith, nat_tests)

pub place_within : {A : Type 0} (p : A → Bool) (xs : List A) (i : ℕ) → position p xs ≡ Some i → i < length xs
place_within p xs i h = let r = place_is _ _ i h in subst (λ k. k < length xs) r.0 r.1

-- what stands at the place that is found
pub found_at : {A : Type 0} (p : A → Bool) (xs : List A) (i : ℕ) → position p xs ≡ Some i → find p xs ≡ slice_get xs i
found_at p xs i h = find_at p xs ∙ ap (slice_get xs) (place_is _ _ i h).0

pub found_element : {A : Type 0} (p : A → Bool) (xs : List A) (i : ℕ) (x : A) → position p xs ≡ Some i → x ≡ get_or xs i x → find p xs ≡ Some x
found_element p xs i x h is = found_at p xs i h ∙ (slice_get-get_or xs i x (place_within p xs i h) ∙ ap (λ y. Some y) (sym is))

pub not_found : {A : Type 0} (p : A → Bool) (xs : List A) → position p xs ≡ None → find p xs ≡ None
not_found p xs h = find_at p xs ∙ slice_get_past xs _ (no_place _ _ h)

-- ARGUMENTS, one after another

args_front : (s : Source) (names : List Name) (sizes : RawSizes) (params : List Param) (args : List RawArg) (i : ℕ) (p : Param) (a : RawArg) → i < length params
    → i < length args →
    args_faults s names sizes (drop i params) (drop i args)
    ≡ arg_fault s names sizes (get_or params i p).kind (get_or args i a) ∷ args_faults s names sizes (drop (i + 1) params) (drop (i + 1) args)
args_front s names sizes params args i p a hp ha =
    rw (add-one i) (ap (λ ps. args_faults s names sizes ps (drop i args)) (drop-cons params i p hp)
    ∙ ap (λ as'. args_faults s names sizes (get_or params i p ∷ drop (suc i) params) as') (drop-cons args i a ha))

pub args_passed : (s : Source) (names : List Name) (sizes : RawSizes) (params : List Param) (args : List RawArg) (i : ℕ) (p : Param) (a : RawArg)
    (all : Option StaticFault) →
    i < length params → i < length args → all ≡ first_some (args_faults s names sizes (drop i params) (drop i args)) →
    p ≡ get_or params i p → a ≡ get_or args i a → arg_fault s names sizes p.kind a ≡ None
    → all ≡ first_some (args_faults s names sizes (drop (i + 1) params) (drop (i + 1) args))
args_passed s names sizes params args i p a all hp ha is same here none =
    is ∙ (ap first_some (args_front s names sizes params args i p a hp ha)
    ∙ first_next _ _ (ap (λ q. arg_fault s names sizes q.kind (get_or args i a)) (sym same) ∙ ap (arg_fault s names sizes p.kind) (sym here) ∙ none))

pub args_stopped : (s : Source) (names : List Name) (sizes : RawSizes) (params : List Param) (args : List RawArg) (i : ℕ) (p : Param) (a : RawArg)
    (all : Option StaticFault) (e : OrderFault) →
    i < length params → i < length args → all ≡ first_some (args_faults s names sizes (drop i params) (drop i args)) →
    p ≡ get_or params i p → a ≡ get_or args i a → Refuses (arg_fault s names sizes p.kind a) e → Refuses all e
args_stopped s names sizes params args i p a all e hp ha is same here r =
    subst (λ o. Refuses o e) (sym (is ∙ ap first_some (args_front s names sizes params args i p a hp ha)))
    (refuses_here _ _ e (subst (λ q. Refuses (arg_fault s names sizes q.kind (get_or args i a)) e) same
    (subst (λ x. Refuses (arg_fault s names sizes p.kind x) e) here r)))

pub args_ended : (s : Source) (names : List Name) (sizes : RawSizes) (params : List Param) (args : List RawArg) (i : ℕ) (all : Option StaticFault) →
    length params ≤ i → all ≡ first_some (args_faults s names sizes (drop i params) (drop i args)) → all ≡ None
args_ended s names sizes params args i all h is =
    is ∙ (ap (λ ps. first_some (args_faults s names sizes ps (drop i args))) (drop_all i params h) ∙ first_end)

-- WAIVED NAMES

pub waive_unknown : (s : Source) (k : Kernel) (at : ℕ) → position (λ p. bytes_eq (text_at s at) (string_bytes p.name)) k.params.items ≡ None →
    waive_fault s k at ≡ Some (record { at = at; kind = UnknownName })
waive_unknown s k at h = ap (λ o. waived_fault k.parallel o at) (not_found _ k.params.items h)

pub waive_known : (s : Source) (k : Kernel) (at place : ℕ) (p : Param) → position
    (λ q. bytes_eq (text_at s at) (string_bytes q.name)) k.params.items ≡ Some place →
    p ≡ get_or k.params.items place p → waive_fault s k at ≡ unless (k.parallel && (is_array p.kind && writes_to p.access)) KindMismatch at
waive_known s k at place p h is = ap (λ o. waived_fault k.parallel o at) (found_element _ k.params.items place p h is)

pub waive_refused : (s : Source) (k : Kernel) (at place : ℕ) (p : Param) (e : OrderFault)
    → position (λ q. bytes_eq (text_at s at) (string_bytes q.name)) k.params.items ≡ Some place →
    p ≡ get_or k.params.items place p → Refuses (unless (k.parallel && (is_array p.kind && writes_to p.access)) KindMismatch at) e
    → Refuses (waive_fault s k at) e
waive_refused s k at place p e h is r = subst (λ o. Refuses o e) (sym (waive_known s k at place p h is)) r

-- a kernel that is found is one of those known
pub kernel_within : (kernels : List Kernel) (text : List ℕ) (o : Option ℕ) → o ≡ kernel_at kernels text → IfSome o (λ place. place < length kernels)
kernel_within kernels text None h = tt
kernel_within kernels text (Some place) h = place_within _ kernels place (sym h)
