-- What an event does that says a scalar of a statement outside its lists, and one that ends a statement without lists.
use Rattle.std.proofs.Common.{◌≡◌, ℕ, true, false, [], ◌∷◌, ◌++◌, if◌then◌else◌, refl, sym, ap}
use Rattle.frame_grammar.specs.declared.symbols.Action.{Action}
use Rattle.frame_grammar.specs.declared.symbols.Action.TheVariants as action
use Rattle.script_text.specs.declared.build_scalars.Scalars.{Scalars}
use Rattle.script_text.specs.Reading.{Reading, is_scalar, scalars_plainly_after, scalars_after, with_name, only_scalars, opens_values, ends, ends_flat, ends_use, used, flat_form, finished, step}

-- A WORD

pub scalar_said : (a : Action) (q : ℕ) (w : Scalars) → is_scalar a ≡ true → scalars_after a q w ≡ scalars_plainly_after a q w
scalar_said action.OpenArguments q w e = cc
scalar_said action.SizesLength q w e = cc
scalar_said action.SizesDefer q w e = cc
scalar_said action.OpenNames q w e = cc
scalar_said action.Waived q w e = cc
scalar_said action.After q w e = cc
scalar_said _ q w e = refl

pub scalar_out : (a : Action) (q : ℕ) (w : Scalars) → w.is_listing ≡ false → (scalars_plainly_after a q w).is_listing ≡ false
scalar_out action.Name q w out = out
scalar_out action.Number q w out = out
scalar_out action.Text q w out = out
scalar_out action.Operator q w out = out
scalar_out action.MinusNumber q w out = out
scalar_out action.PlainNumber q w out = out
scalar_out action.NoNumber q w out = out
scalar_out action.LifeTemp q w out = out
scalar_out action.LifeTempJob q w out = out
scalar_out action.Auto q w out = out
scalar_out _ q w out = out

pub scalar_kept : (a : Action) (q : ℕ) (w : Scalars) → is_scalar a ≡ true → w.is_listing ≡ false →
    only_scalars (scalars_plainly_after a q w) ≡ step a q (only_scalars w)
scalar_kept action.Name q w e out =
    ap (λ b. record { scalars = with_name q w; args = []; names = if b then [] ++ q ∷ [] else []; waive = [] }) (sym out)
scalar_kept action.Number q w e out = refl
scalar_kept action.Text q w e out = refl
scalar_kept action.Operator q w e out = refl
scalar_kept action.MinusNumber q w e out = refl
scalar_kept action.PlainNumber q w e out = refl
scalar_kept action.NoNumber q w e out = refl
scalar_kept action.LifeNone q w e out = refl
scalar_kept action.LifeTemp q w e out = refl
scalar_kept action.LifeTempJob q w e out = refl
scalar_kept action.LifePersistent q w e out = refl
scalar_kept action.NoValues q w e out = refl
scalar_kept action.Auto q w e out = refl
scalar_kept action.NotAuto q w e out = refl
scalar_kept _ q w e out = cc

-- another event says none
pub no_scalar : (a : Action) (q : ℕ) (w : Scalars) → is_scalar a ≡ false → scalars_plainly_after a q w ≡ w
no_scalar action.Name q w e = cc
no_scalar action.Number q w e = cc
no_scalar action.Text q w e = cc
no_scalar action.Operator q w e = cc
no_scalar action.MinusNumber q w e = cc
no_scalar action.PlainNumber q w e = cc
no_scalar action.NoNumber q w e = cc
no_scalar action.LifeTemp q w e = cc
no_scalar action.LifeTempJob q w e = cc
no_scalar action.Auto q w e = cc
no_scalar _ q w e = refl

pub scalar_shut : (a : Action) → is_scalar a ≡ true → opens_values a ≡ false
scalar_shut action.OpenValues e = cc
scalar_shut _ e = refl

pub scalar_goes : (a : Action) → is_scalar a ≡ true → ends a ≡ false
scalar_goes action.Name e = refl
scalar_goes action.Number e = refl
scalar_goes action.Text e = refl
scalar_goes action.Operator e = refl
scalar_goes action.MinusNumber e = refl
scalar_goes action.PlainNumber e = refl
scalar_goes action.NoNumber e = refl
scalar_goes action.LifeNone e = refl
scalar_goes action.LifeTemp e = refl
scalar_goes action.LifeTempJob e = refl
scalar_goes action.LifePersistent e = refl
scalar_goes action.NoValues e = refl
scalar_goes action.Auto e = refl
scalar_goes action.NotAuto e = refl
scalar_goes _ e = cc

-- AN END

pub flat_ends : (a : Action) → ends_flat a ≡ true → ends a ≡ true
flat_ends action.ScheduleStatement e = refl
flat_ends action.CombineStatement e = refl
flat_ends action.DisposeStatement e = refl
flat_ends action.DisposeAfterStatement e = refl
flat_ends _ e = e

pub flat_shut : (a : Action) → ends_flat a ≡ true → opens_values a ≡ false
flat_shut action.OpenValues e = cc
flat_shut _ e = refl

pub flat_finished : (a : Action) (r : Reading) → ends_flat a ≡ true → flat_form a r.scalars ≡ finished a r
flat_finished action.ScheduleStatement r e = cc
flat_finished action.CombineStatement r e = cc
flat_finished action.DisposeStatement r e = cc
flat_finished action.DisposeAfterStatement r e = cc
flat_finished _ r e = refl

pub used_flat : (a : Action) (w : Scalars) → ends_use a ≡ true → used a w ≡ flat_form a w
used_flat action.ArrayStatement w e = cc
used_flat action.ColumnStatement w e = cc
used_flat action.ListStatement w e = cc
used_flat action.ReferenceStatement w e = cc
used_flat action.MapStatement w e = cc
used_flat action.StreamStatement w e = cc
used_flat action.SliceStatement w e = cc
used_flat action.ViewStatement w e = cc
used_flat action.CopyStatement w e = cc
used_flat _ w e = refl
