use Rattle.std.proofs.Common.{refl}
use Rattle.plan_statements.proofs.capacity.move_list.Goals as goal

pub returns : goal.returns
returns c = record {
  now = _;
  bind_is = refl;
  slot_is = refl;
  version_is = refl;
  life_is = refl;
  frame_is = refl;
  name_is = refl;
  line_is = refl;
  regrown = record {
    fit = c.in-Ok.ensures.fit;
    low = c.in-Ok.ensures.low;
    len_is = c.in-Ok.ensures.len;
    places = c.in-Ok.ensures.places;
    live = c.in-Ok.ensures.live;
    used = c.in-Ok.ensures.used;
    peak = c.in-Ok.ensures.peak;
  };
  broken = record { slot_is = c.bump_view.ensures.slot; others = c.bump_view.ensures.others };
  containers = refl;
  created = refl;
  rest = refl;
}
