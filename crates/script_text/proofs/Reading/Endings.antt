-- Which events are left where those before them were told apart.
use Rattle.std.proofs.Common.{◌≡◌, true, refl}
use Rattle.frame_grammar.specs.declared.symbols.Action.{Action}
use Rattle.frame_grammar.specs.declared.symbols.Action.TheVariants as action
use Rattle.script_text.specs.Reading.{ends, ends_flat, ends_use}

-- past the statements with lists
pub flat_left : (a : Action) → ends a ≡ true →
    (a ≡ action.ScheduleStatement → ⊥) → (a ≡ action.CombineStatement → ⊥) →
    (a ≡ action.DisposeStatement → ⊥) → (a ≡ action.DisposeAfterStatement → ⊥) →
    ends_flat a ≡ true
flat_left action.ScheduleStatement e taken _ _ _ = absurd (taken refl)
flat_left action.CombineStatement e _ taken _ _ = absurd (taken refl)
flat_left action.DisposeStatement e _ _ taken _ = absurd (taken refl)
flat_left action.DisposeAfterStatement e _ _ _ taken = absurd (taken refl)
flat_left _ e _ _ _ _ = cc

-- past the statements that make a name
pub use_left : (a : Action) → ends_flat a ≡ true →
    (a ≡ action.ArrayStatement → ⊥) →
    (a ≡ action.ColumnStatement → ⊥) → (a ≡ action.ListStatement → ⊥) → (a ≡ action.ReferenceStatement → ⊥) →
    (a ≡ action.MapStatement → ⊥) → (a ≡ action.StreamStatement → ⊥) → (a ≡ action.SliceStatement → ⊥) →
    (a ≡ action.ViewStatement → ⊥) → (a ≡ action.CopyStatement → ⊥) →
    ends_use a ≡ true
use_left action.ArrayStatement e taken _ _ _ _ _ _ _ _ = absurd (taken refl)
use_left action.ColumnStatement e _ taken _ _ _ _ _ _ _ = absurd (taken refl)
use_left action.ListStatement e _ _ taken _ _ _ _ _ _ = absurd (taken refl)
use_left action.ReferenceStatement e _ _ _ taken _ _ _ _ _ = absurd (taken refl)
use_left action.MapStatement e _ _ _ _ taken _ _ _ _ = absurd (taken refl)
use_left action.StreamStatement e _ _ _ _ _ taken _ _ _ = absurd (taken refl)
use_left action.SliceStatement e _ _ _ _ _ _ taken _ _ = absurd (taken refl)
use_left action.ViewStatement e _ _ _ _ _ _ _ taken _ = absurd (taken refl)
use_left action.CopyStatement e _ _ _ _ _ _ _ _ taken = absurd (taken refl)
use_left _ e _ _ _ _ _ _ _ _ _ = cc

-- past all statements
pub none_left : (a : Action) → ends_use a ≡ true →
    (a ≡ action.SetStatement → ⊥) → (a ≡ action.AddToStatement → ⊥) → (a ≡ action.PutStatement → ⊥) →
    (a ≡ action.RemoveFromStatement → ⊥) → (a ≡ action.ClearOutStatement → ⊥) → (a ≡ action.SetCapacityStatement → ⊥) →
    (a ≡ action.CompleteStatement → ⊥) → (a ≡ action.DisposeAutoStatement → ⊥) → (a ≡ action.PrintStatement → ⊥) →
    (a ≡ action.FlushStatement → ⊥) → (a ≡ action.FrameStatement → ⊥) → (a ≡ action.OpenRepeat → ⊥) →
    (a ≡ action.OpenWhen → ⊥) →
    ⊥
none_left action.SetStatement e taken _ _ _ _ _ _ _ _ _ _ _ _ = taken refl
none_left action.AddToStatement e _ taken _ _ _ _ _ _ _ _ _ _ _ = taken refl
none_left action.PutStatement e _ _ taken _ _ _ _ _ _ _ _ _ _ = taken refl
none_left action.RemoveFromStatement e _ _ _ taken _ _ _ _ _ _ _ _ _ = taken refl
none_left action.ClearOutStatement e _ _ _ _ taken _ _ _ _ _ _ _ _ = taken refl
none_left action.SetCapacityStatement e _ _ _ _ _ taken _ _ _ _ _ _ _ = taken refl
none_left action.CompleteStatement e _ _ _ _ _ _ taken _ _ _ _ _ _ = taken refl
none_left action.DisposeAutoStatement e _ _ _ _ _ _ _ taken _ _ _ _ _ = taken refl
none_left action.PrintStatement e _ _ _ _ _ _ _ _ taken _ _ _ _ = taken refl
none_left action.FlushStatement e _ _ _ _ _ _ _ _ _ taken _ _ _ = taken refl
none_left action.FrameStatement e _ _ _ _ _ _ _ _ _ _ taken _ _ = taken refl
none_left action.OpenRepeat e _ _ _ _ _ _ _ _ _ _ _ taken _ = taken refl
none_left action.OpenWhen e _ _ _ _ _ _ _ _ _ _ _ _ taken = taken refl
none_left _ e _ _ _ _ _ _ _ _ _ _ _ _ _ = cc
