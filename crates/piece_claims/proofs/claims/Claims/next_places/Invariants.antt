use Rattle.std.proofs.Common.{◌-◌, ◌≡◌}
use Rattle.piece_claims.specs.declared.view.View.TheVariants.{Saw}
use Rattle.piece_claims.proofs.claims.Claims.next_places.Given as goal

abbrev pub invariant-loop-place : goal.invariant-loop-place
invariant-loop-place l = record {
  home : l.token.table_id ≡ l.fn.self.table.shared.table_id;
  saw : l.token.me.0 ≡ Saw l.job l.place;
}

abbrev pub decreases-loop-place : goal.decreases-loop-place
decreases-loop-place l = l.count - l.place
