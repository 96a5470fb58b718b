use Rattle.std.proofs.Common.{◌≡◌, ◌<◌, ℕ, zero, suc, true, false, List, [], ◌∷◌, ap, subst, ◌∙◌, refl}
use Rattle.std.specs.Prelude.{IfSome}
use Rattle.std.specs.Option.{IfNone}
use Rattle.std.proofs.lemmas.Bool.{both_ways}
use Rattle.frame_ast.specs.Jobs.{Jobs}
use Rattle.job_handle.specs.declared.handle.Handle.{Handle}
use Rattle.job_handle.specs.Sets.{jobs_of}
use Rattle.slot_store.specs.declared.lot.Lot.{Lot}
use Rattle.slot_store.specs.declared.lot.Standing.{Standing}
use Rattle.slot_store.specs.declared.lot.Standing.TheVariants.{Free, Taken, Held}
use Rattle.slot_store.specs.declared.store.SlotStore.{SlotStore}
use Rattle.slot_store.specs.Stores.{places_of, sets_of}
use Rattle.slot_store.specs.Places.{is_held, users_of, state_by, places_in, place_at}
use Rattle.slot_store.proofs.store.SlotStore.pending_user.Goals as goal

-- the jobs of a set count where the range is held
held_by : (s : Standing) (users : Handle) → is_held (state_by s users) ≡ true → jobs_of users ≡ users_of (state_by s users)
held_by Free users h = absurd (both_ways false refl h)
held_by Taken users h = absurd (both_ways false refl h)
held_by Held users h = refl

held_at : (xs : List Lot) (sets : ℕ → Handle) (s : ℕ) → is_held (place_at (places_in xs sets) s).state ≡ true
    → jobs_of (sets s) ≡ users_of (place_at (places_in xs sets) s).state
held_at [] sets s h = absurd (both_ways false refl h)
held_at (x ∷ xs) sets zero h = held_by x.standing (sets 0) h
held_at (x ∷ xs) sets (suc s) h = held_at xs (λ t. sets (suc t)) s h

users_are : (z : SlotStore) (s : ℕ) (users : Handle) → users ≡ sets_of z s → is_held (place_at (places_of z) s).state ≡ true
    → jobs_of users ≡ users_of (place_at (places_of z) s).state
users_are z s users e h = ap jobs_of e ∙ held_at z.lots.items (sets_of z) s h

pub returns-clause-some : goal.returns-clause-some
returns-clause-some c =
    let z = c.args.self.now in
    subst (λ (users : Jobs). IfSome c.pending_of.result (λ j. (0 < j.0) × (users j.0 ≡ true) × (jobs_of z.completed j.0 ≡ false)))
    (users_are z c.args.held.slot c.users_at-users.result.now c.users_at-users.ensures c.requires.held) c.pending_of.ensures.some

pub returns-clause-none : goal.returns-clause-none
returns-clause-none c =
    let z = c.args.self.now in
    subst (λ (users : Jobs). IfNone c.pending_of.result ((j : ℕ) → users j ≡ true → jobs_of z.completed j ≡ true))
    (users_are z c.args.held.slot c.users_at-users.result.now c.users_at-users.ensures c.requires.held) c.pending_of.ensures.none
