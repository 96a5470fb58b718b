use Rattle.std.proofs.Common.{◌≡◌, length, None, refl, ap, ◌∙◌, arith}
use Rattle.std.specs.Prelude.{replicate}
use Rattle.plan_state.specs.declared.state.Value.TheVariants.{Dead}
use Rattle.frame_plan.proofs.Starting.{begun_new}
use Rattle.frame_plan.proofs.planner.at_start.Goals as goal

pub returns-clause-begun : goal.returns-clause-begun
returns-clause-begun c table =
    let kernels : c.len-2.result ≡ length c.args.script.now.kernels.items =
    (let e = c.len-2.ensures in let l = c.args.script.now.kernels.ok.0 in omega arith) in
    let guards : c.len-3.result ≡ length c.args.script.now.kernels.items = (let e = c.len-3.ensures in let l = c.args.script.now.kernels.ok.0 in omega arith) in
    begun_new c.args.script.now table _ (record {
      values = c.in_ok-dead_values.ensures ∙ ap (λ n. replicate n Dead) c.len.ensures;
      handles = c.new.ensures.items;
      containers = c.in_ok-make_room.ensures.containers ∙ c.new-2.ensures.items;
      temps = c.new-3.ensures.items;
      tempjobs = c.new-4.ensures.items;
      overdue = refl;
      frame = refl;
      jobs = c.new-5.ensures;
      places = c.in_ok-new-2.ensures.places;
      live = c.in_ok-new-2.ensures.live;
      used = c.in_ok-new-2.ensures.used;
      peak = c.in_ok-new-2.ensures.peak;
      created = refl;
      passing = refl;
      before = refl;
      kernels = c.in_ok-draft.ensures ∙ ap (λ n. replicate n None) kernels;
      guards = c.in_ok-draft-2.ensures ∙ ap (λ n. replicate n None) guards;
      plan_kernels = c.none-draft.ensures.kernels;
      plan_codes = c.none-draft.ensures.codes;
      literals = c.none-draft.ensures.literals;
      segments = c.none-draft.ensures.segments;
      plan_jobs = c.none-draft.ensures.jobs;
      waits = c.none-draft.ensures.waits;
      ops = c.in_ok-make_room.ensures.ops ∙ c.none-draft.ensures.ops;
      pieces = c.none-draft.ensures.pieces;
      first = c.none-draft.ensures.first;
    })
