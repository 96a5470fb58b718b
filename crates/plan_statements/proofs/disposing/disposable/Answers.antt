use Rattle.std.proofs.Common.{sym, ◌∙◌, Ok, Err, refl}
use Rattle.std.specs.Prelude.{vec_len}
use Rattle.job_handle.specs.Sets.{jobs_of}
use Rattle.plan_state.proofs.Accessing.{read_some}
use Rattle.plan_statements.proofs.Disposals.{no_container, number_below, may_dispose, may_not}
use Rattle.plan_statements.proofs.disposing.disposable.Goals as goal

pub returns-in_default : goal.returns-in_default
returns-in_default c =
    no_container c.args.world.now c.args.name (jobs_of c.args.deps.now) c.index-value.result.now
    (read_some c.args.world.now.values c.args.name c.index-value.result.now c.requires.name c.index-value.ensures)
    (sym c.container_of.ensures ∙ c.in_default.is)

pub tag_of-tag-requires : goal.tag_of-tag-requires
tag_of-tag-requires c =
    number_below (vec_len c.args.world.now.containers) (vec_len c.args.world.now.handles) c.index-value.result.now c.in-Some.number
    (c.requires.there c.args.name c.index-value.result.now
    (read_some c.args.world.now.values c.args.name c.index-value.result.now c.requires.name c.index-value.ensures))
    (sym c.container_of.ensures ∙ c.in-Some.is)

pub returns-in-Ok : goal.returns-in-Ok
returns-in-Ok c =
    may_dispose c.args.world.now c.args.name (jobs_of c.args.deps.now) c.index-value.result.now c.in-Some.number
    (read_some c.args.world.now.values c.args.name c.index-value.result.now c.requires.name c.index-value.ensures)
    (sym c.container_of.ensures ∙ c.in-Some.is) c.tag_of-tag.result c.tag_of-tag.ensures (Ok c.in-Ok.field-0) c.in-Ok.ensures refl

pub returns-in-Err : goal.returns-in-Err
returns-in-Err c =
    may_not c.args.world.now c.args.name (jobs_of c.args.deps.now) c.index-value.result.now c.in-Some.number
    (read_some c.args.world.now.values c.args.name c.index-value.result.now c.requires.name c.index-value.ensures)
    (sym c.container_of.ensures ∙ c.in-Some.is) c.tag_of-tag.result c.tag_of-tag.ensures (Err c.in-Err.blocked) c.in-Err.ensures
    c.in-Err.blocked c.refusal_of_blocked.result refl c.refusal_of_blocked.ensures
