-- A statement without a fault says the same when more names and kernels are known.
use Rattle.std.proofs.Common.{◌≡◌, ℕ, Bool, true, arith, List, [], length, map, Option, Some, None, refl, sym, ◌∙◌, ap, subst}
use Rattle.std.proofs.lemmas.Bool.Decides.{nat_tests}
use Rattle.std.specs.Option.{option_map}
use Rattle.frame_ast.specs.declared.kernel.Kernel.{Kernel}
use Rattle.frame_ast.specs.declared.script.Order.{Order}
use Rattle.frame_ast.specs.declared.script.Order.TheVariants as order
use Rattle.frame_ast.specs.declared.name_kind.NameKind.{NameKind}
use Rattle.frame_ast.specs.declared.name_kind.NameKind.TheVariants as kind
use Rattle.frame_ast.specs.Lists.{first_some}
use Rattle.script_text.specs.declared.raw.RawArg.{RawArg}
use Rattle.script_text.specs.declared.raw.RawSizes.{RawSizes}
use Rattle.script_text.specs.declared.source.Source.{Source}
use Rattle.script_text.specs.Raw.{OrderForm, NewArray, NewColumn, NewList, NewReference, NewMap, NewStream, Slice, View, Copy, Set, Add, Put, Remove, Clear, SetCapacity, Schedule, Combine, Complete, Dispose, DisposeAuto, Print, Flush, Frame, Repeat, When}
use Rattle.std.specs.List.{slice_get}
use Rattle.script_text.specs.Signs.{sign_in}
use Rattle.script_text.specs.Sources.{file_tokens, text_at, number_at, signed_at}
use Rattle.script_names.specs.Names.{Name, kind_in}
use Rattle.script_checks.specs.Faults.{Scope, order_faults, use_fault, misfit, kernel_in, takes, scheduled_faults, args_faults, sizes_faults, waive_fault, handles_faults, kernel_fault, made, made_alike}
use Rattle.script_checks.specs.Spelling.{Says, names_after, names_with, place_of, literal_of, params_of, params_named, param_place, complete_of}
use Rattle.frame_script.specs.Walking.{KeepsNames, KeepsKernels}
use Rattle.frame_script.proofs.Walking.KeptSays.{parted, joined, holds, same_used, same_made, same_handles, same_args, same_defer}

-- what is said of a scope, in a greater one
abbrev pub Stays : Source → Scope → List Name → List Kernel → OrderForm → Type 0
Stays s c names kernels form = (at literals count : ℕ) (o : Order) → first_some (order_faults s c at form) ≡ None →
    KeepsNames (names_after s c.names form) names → KeepsKernels c.kernels kernels →
    Says s (names_after s c.names form) c.kernels literals count form o → Says s names kernels literals count form o

-- an order that is said by one name, by two
one : (f : ℕ → Order) {a b : ℕ} {o : Order} → a ≡ b → o ≡ f a → o ≡ f b
one f e says = says ∙ ap f e

two : (f : ℕ → ℕ → Order) {a b c d : ℕ} {o : Order} → a ≡ b → c ≡ d → o ≡ f a c → o ≡ f b d
two f {a} {b} {c} {d} e g says = says ∙ (ap (λ x. f x c) e ∙ ap (f b) g)

-- MAKING

array : (s : Source) (c : Scope) (names : List Name) (kernels : List Kernel) (name len : ℕ) (life : _) (values : _)
    → Stays s c names kernels (NewArray name len life values)
array s c names kernels name len life values at literals count o none keeps more says =
    one (λ x. order.Array x (number_at s len) life (literal_of literals values)) (same_made s c.names names name kind.Array keeps) says

column : (s : Source) (c : Scope) (names : List Name) (kernels : List Kernel) (name text : ℕ) (life : _) → Stays s c names kernels (NewColumn name text life)
column s c names kernels name text life at literals count o none keeps more says =
    (says.0, says.1, one (λ x. order.Column x says.0 life) (same_made s c.names names name kind.Array keeps) says.2)

-- the kind of what is copied is known
copied : (s : Source) (known : List Name) (kinds : List NameKind) (of : ℕ) → use_fault s known kinds of ≡ None
    → (k : NameKind) × (kind_in known (text_at s of) ≡ Some k)
copied s known kinds of none = by (kind_in known (text_at s of)) none where
  by : (o : Option NameKind) → misfit o kinds of ≡ None → (k : NameKind) × (o ≡ Some k)
  by None h = absurd cc
  by (Some k) h = (k, refl)

copy : (s : Source) (c : Scope) (names : List Name) (kernels : List Kernel) (name of : ℕ) → Stays s c names kernels (Copy name of)
copy s c names kernels name of at literals count o none keeps more says =
    let p = parted _ _ none in
    let q = parted (use_fault s c.names _ of) [] p.1 in
    let k = copied s c.names _ of q.0 in
    let m : made_alike name (kind_in c.names (text_at s of)) ≡ Some (name, k.0) = ap (made_alike name) k.1 in
    let new : place_of s (names_with s c.names (made_alike name (kind_in c.names (text_at s of)))) name ≡ place_of s names name =
    (rw m (same_made s c.names names name k.0 (subst (λ x. KeepsNames (names_with s c.names x) names) m keeps))) in
    two order.Copy new (same_used s c.names names (made_alike name (kind_in c.names (text_at s of))) _ of keeps q.0) says

-- SCHEDULES

takes_all : (k : Kernel) (args : List RawArg) (cut : RawSizes) → takes k args cut ≡ true → length args ≡ length k.params.items
takes_all k args cut h = grind (arith, nat_tests)

schedule_known : (s : Source) (c : Scope) (names : List Name) (kernels : List Kernel) (auto : Bool) (handle kernel : ℕ) (args : List RawArg) (cut : RawSizes)
    (waive after : List ℕ) (k : Kernel) →
    kernel_in c.kernels (text_at s kernel) ≡ Some k → first_some (scheduled_faults s c.names (Some k) kernel args cut waive after) ≡ None →
    (at literals count : ℕ) (o : Order) → KeepsNames (names_with s c.names (Some (handle, kind.Handle))) names → KeepsKernels c.kernels kernels →
    Says s (names_with s c.names (Some (handle, kind.Handle))) c.kernels literals count (Schedule auto handle kernel args cut waive after) o →
    Says s names kernels literals count (Schedule auto handle kernel args cut waive after) o
schedule_known s c names kernels auto handle kernel args cut waive after k is none at literals count o keeps more (job, said, says) =
    let m : Option (ℕ × NameKind) = Some (handle, kind.Handle) in
    let p = parted (kernel_fault k kernel args cut) _ none in
    let q = joined (args_faults s c.names cut k.params.items args) _ p.1 in
    let r = joined (sizes_faults s c.names cut) _ q.1 in
    let t = joined (map (waive_fault s k) waive) (handles_faults s c.names after) r.1 in
    let taken : takes k args cut ≡ true = holds (takes k args cut) _ kernel (parted _ _ p.0).0 in
    let kept = more (text_at s kernel) k is in
    let params : params_named s c.kernels kernel ≡ params_named s kernels kernel = ap params_of (is ∙ sym kept.0) in (
      job,
      record {
        auto_is = said.auto_is;
        handle_is = said.handle_is ∙ same_made s c.names names handle kind.Handle keeps;
        kernel_is = said.kernel_is ∙ sym kept.1;
        args_are = said.args_are ∙ same_args s c.names names m cut k.params.items args keeps (takes_all k args cut taken) q.0;
        cut_is = said.cut_is;
        defer_is = said.defer_is ∙ same_defer s c.names names m cut keeps r.0;
        waive_are = said.waive_are ∙ ap (λ ps. map (λ x. param_place ps (text_at s x)) waive) params;
        after_are = said.after_are ∙ same_handles s c.names names m after keeps t.1;
      },
      says,
    )

schedule_by : (s : Source) (c : Scope) (names : List Name) (kernels : List Kernel) (auto : Bool) (handle kernel : ℕ) (args : List RawArg) (cut : RawSizes)
    (waive after : List ℕ) →
    (k : Option Kernel) → kernel_in c.kernels (text_at s kernel) ≡ k → first_some (scheduled_faults s c.names k kernel args cut waive after) ≡ None →
    (at literals count : ℕ) (o : Order) → KeepsNames (names_with s c.names (Some (handle, kind.Handle))) names → KeepsKernels c.kernels kernels →
    Says s (names_with s c.names (Some (handle, kind.Handle))) c.kernels literals count (Schedule auto handle kernel args cut waive after) o →
    Says s names kernels literals count (Schedule auto handle kernel args cut waive after) o
schedule_by s c names kernels auto handle kernel args cut waive after (Some k) is none at literals count o keeps more says =
    schedule_known s c names kernels auto handle kernel args cut waive after k is none at literals count o keeps more says
schedule_by s c names kernels auto handle kernel args cut waive after None is none at literals count o keeps more says =
    let bad = (parted _ _ none).0 in absurd cc

-- ALL STATEMENTS

pub says_kept : (s : Source) (c : Scope) (names : List Name) (kernels : List Kernel) (form : OrderForm) → Stays s c names kernels form
says_kept s c names kernels (NewArray name len life values) at literals count o none keeps more says =
    array s c names kernels name len life values at literals count o none keeps more says
says_kept s c names kernels (NewColumn name text life) at literals count o none keeps more says =
    column s c names kernels name text life at literals count o none keeps more says
says_kept s c names kernels (NewList name n life) at literals count o none keeps more says =
    one (λ x. order.List x (number_at s n) life) (same_made s c.names names name kind.List keeps) says
says_kept s c names kernels (NewReference name life value) at literals count o none keeps more says =
    one (λ x. order.Reference x life (option_map (signed_at s) value)) (same_made s c.names names name kind.Reference keeps) says
says_kept s c names kernels (NewMap name n life) at literals count o none keeps more says =
    one (λ x. order.Map x (number_at s n) life) (same_made s c.names names name kind.Map keeps) says
says_kept s c names kernels (NewStream name indexes room life) at literals count o none keeps more says =
    one (λ x. order.Stream x (number_at s indexes) (number_at s room) life) (same_made s c.names names name kind.Stream keeps) says
says_kept s c names kernels (Slice name of start len) at literals count o none keeps more says =
    let p = parted _ _ none in
    let q = parted (use_fault s c.names _ of) _ p.1 in
    two (λ x y. order.Slice x y (number_at s start) (number_at s len)) (same_made s c.names names name kind.Slice keeps)
    (same_used s c.names names (made name kind.Slice) _ of keeps q.0) says
says_kept s c names kernels (View name of) at literals count o none keeps more says =
    let p = parted _ _ none in
    let q = parted (use_fault s c.names _ of) _ p.1 in
    two order.View (same_made s c.names names name kind.View keeps) (same_used s c.names names (made name kind.View) _ of keeps q.0) says
says_kept s c names kernels (Copy name of) at literals count o none keeps more says = copy s c names kernels name of at literals count o none keeps more says
says_kept s c names kernels (Set name index value) at literals count o none keeps more says =
    one (λ x. order.Set x (option_map (signed_at s) index) (signed_at s value)) (same_used s c.names names None _ name keeps (parted _ _ none).0) says
says_kept s c names kernels (Add name one' second) at literals count o none keeps more says =
    one (λ x. order.Add x (signed_at s one') (option_map (signed_at s) second)) (same_used s c.names names None _ name keeps (parted _ _ none).0) says
says_kept s c names kernels (Put name key value) at literals count o none keeps more says =
    one (λ x. order.Put x (signed_at s key) (signed_at s value)) (same_used s c.names names None _ name keeps (parted _ _ none).0) says
says_kept s c names kernels (Remove name index) at literals count o none keeps more says =
    one (λ x. order.Remove x (signed_at s index)) (same_used s c.names names None _ name keeps (parted _ _ none).0) says
says_kept s c names kernels (Clear name) at literals count o none keeps more says =
    one order.Clear (same_used s c.names names None _ name keeps (parted _ _ none).0) says
says_kept s c names kernels (SetCapacity name n) at literals count o none keeps more says =
    one (λ x. order.SetCapacity x (number_at s n)) (same_used s c.names names None _ name keeps (parted _ _ none).0) says
says_kept s c names kernels (Schedule auto handle kernel args cut waive after) at literals count o none keeps more says =
    schedule_by s c names kernels auto handle kernel args cut waive after (kernel_in c.kernels (text_at s kernel)) refl
    (parted _ _ none).1 at literals count o keeps more says
says_kept s c names kernels (Combine name of) at literals count o none keeps more (handles, handles_are, says) = (
  handles,
  handles_are ∙ same_handles s c.names names (made name kind.Handle) of keeps (parted _ _ none).1,
  one (λ x. order.Combine x handles) (same_made s c.names names name kind.Handle keeps) says,
)
says_kept s c names kernels (Complete auto name) at literals count o none keeps more says =
    one (complete_of auto) (same_used s c.names names None _ name keeps (parted _ _ none).0) says
says_kept s c names kernels (Dispose name after None) at literals count o none keeps more (handles, handles_are, says) =
    let p = parted (use_fault s c.names _ name) _ none in (
      handles,
      handles_are ∙ same_handles s c.names names None after keeps (joined (handles_faults s c.names after) _ p.1).0,
      one (λ x. order.Dispose x handles None) (same_used s c.names names None _ name keeps p.0) says,
    )
says_kept s c names kernels (Dispose name after (Some handle)) at literals count o none keeps more (handles, handles_are, says) =
    let m : Option (ℕ × NameKind) = made handle kind.Handle in
    let p = parted (use_fault s c.names _ name) _ none in (
      handles,
      handles_are ∙ same_handles s c.names names m after keeps (joined (handles_faults s c.names after) _ p.1).0,
      two (λ x y. order.Dispose x handles (Some y)) (same_used s c.names names m _ name keeps p.0) (same_made s c.names names handle kind.Handle keeps) says,
    )
says_kept s c names kernels (DisposeAuto name handle) at literals count o none keeps more says =
    two order.DisposeAuto (same_used s c.names names (made handle kind.Handle) _ name keeps (parted _ _ none).0)
    (same_made s c.names names handle kind.Handle keeps) says
says_kept s c names kernels (Print name) at literals count o none keeps more says =
    one order.Print (same_used s c.names names None _ name keeps (parted _ _ none).0) says
says_kept s c names kernels Flush at literals count o none keeps more says = says
says_kept s c names kernels Frame at literals count o none keeps more says = says
says_kept s c names kernels (Repeat n) at literals count o none keeps more says = says
says_kept s c names kernels (When name test value) at literals count o none keeps more says =
    let p = parted _ _ none in
    one (λ x. order.When x (sign_in (slice_get (file_tokens s) test)) (signed_at s value) count)
    (same_used s c.names names None _ name keeps (parted _ _ p.1).0) says
