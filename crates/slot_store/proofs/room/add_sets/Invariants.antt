use Rattle.std.proofs.Common.{◌≡◌, ℕ, ◌+◌, ◌-◌, ◌≤◌, vec_len, vec_capacity}
use Rattle.slot_store.specs.Places.{set_at}
use Rattle.slot_store.proofs.room.add_sets.Given as goal

abbrev pub invariant-loop-users : goal.invariant-loop-users
invariant-loop-users l = record {
  room : vec_capacity l.initial.users ≤ vec_capacity l.users;
  same : (s : ℕ) → set_at l.users.items l.none s ≡ set_at l.initial.users.items l.none s;
}

abbrev pub decreases-loop-users : goal.decreases-loop-users
decreases-loop-users l = l.at + 1 - vec_len l.users
