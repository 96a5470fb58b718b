-- A section from turn to turn, and at its end.
use Rattle.std.proofs.Common.{◌≡◌, sym, subst, ℕ, false, List, length, All, Option, None, Some}
use Rattle.std.proofs.lemmas.Bool.{false≢true}
use Rattle.std.specs.Prelude.{IfSome, Box, Vec}
use Rattle.std.specs.declared.alloc.Global.{Global}
use Rattle.std.specs.declared.sync.Arc.{Arc}
use Rattle.frame_core.specs.declared.plan.Plan.{Plan}
use Rattle.frame_core.specs.Output.{plan_lines}
use Rattle.plan_run.specs.Runs.{RunsBetween, is_fault}
use Rattle.plan_run.specs.declared.run_end.RunEnd.{RunEnd}
use Rattle.plan_state.specs.Steps.{state_at}
use Rattle.steal_pool.specs.declared.place.Place.{Place}
use Rattle.steal_pool.specs.declared.standing.Standing.{Standing}
use Rattle.steal_pool.specs.Seats.{IsFirst, IsReady}
use Rattle.steal_pool.specs.Turns.{HasSaid, IsStanding}
use Rattle.word_board.specs.declared.board.WordBoard.{WordBoard}
use Rattle.word_board.specs.declared.seat.WordSeat.{WordSeat}
use Rattle.word_board.specs.Boards.{home_of, know_of, name_of}
use Rattle.frame_stage.specs.declared.stage.Stage.{Stage}
use Rattle.frame_stage.specs.declared.hold.Hold.{Hold}
use Rattle.frame_stage.specs.Stages.{IsHelper, IsStage, stage_of, stage_of_part}
use Rattle.frame_host.specs.declared.section.FrameSection.{FrameSection}
use Rattle.frame_host.specs.declared.text.KeptText.{KeptText}
use Rattle.frame_host.specs.Frames.{IsRun, IsThrough, IsUnderway, IsUnderwayOn, faults_of, stage_in, table_in, taken_of, tree_in}
use Rattle.frame_host.proofs.Lines.{said_on}

-- It holds its stage otherwise, and some places are given out.
pub given_on : (s : FrameSection) (hold : Hold) (others : Vec (Place WordSeat) Global) → IsUnderway s → stage_of hold ≡ stage_in s
    → All (IsReady home_of know_of (name_of (stage_in s).board)) others.items → IsUnderway record s { stage = hold; others = others }
given_on s hold others u same ready =
    let there : IsUnderwayOn (stage_in s) record s { stage = hold; others = others } = record {
      sections = u.sections;
      from = u.from;
      after = u.after;
      room = u.room;
      stands = u.stands;
      others = ready;
      before = u.before;
      waited = u.waited;
      said_before = u.said_before;
      said = u.said;
      through = u.through;
    } in
    subst (λ stage. IsUnderwayOn stage record s { stage = hold; others = others }) (sym same) there

pub is_helper : (stage : Stage) (part : Arc (Box Stage Global) Global) (place : Place WordSeat) → IsStage stage → stage_of_part part ≡ stage
    → IsReady home_of know_of (name_of stage.board) place → IsHelper record { stage = part; place = place; over = false }
is_helper stage part place is_stage same ready = record {
  stage = subst IsStage (sym same) is_stage;
  ready = subst (λ (x : Stage). IsReady home_of know_of (name_of x.board) place) (sym same) ready;
  over = λ e. absurd (false≢true e);
}

-- What a turn of the script's thread leaves, and what is known where it was the last one.
pub record IsTurn (s : FrameSection) (plan : Plan) (board : WordBoard) (place : Place WordSeat) (at : Standing) (out : List ℕ) (text : KeptText)
    (ended : Option RunEnd) : Type 0 where
  pub stands : IsStanding home_of know_of (name_of board) plan at place
  pub said : (first : KeptText) (waited : List ℕ) → HasSaid taken_of faults_of plan first waited s.frame.text s.frame.progress.out s.at
      → HasSaid taken_of faults_of plan first waited text out at
  pub through : IfSome ended (λ end. IsFirst home_of know_of (name_of board) (length plan.segments.items) place
      × ((first : KeptText) (waited : List ℕ) → HasSaid taken_of faults_of plan first waited s.frame.text s.frame.progress.out s.at
      → RunsBetween taken_of faults_of plan (plan_lines plan) first waited text out end))

module _ (s : FrameSection) (plan : Plan) (board : WordBoard) (place : Place WordSeat) (at : Standing) (out : List ℕ) (text : KeptText)
    (ended : Option RunEnd) where
  pub turned : IsUnderway s → plan ≡ (stage_in s).section.plan → board ≡ (stage_in s).board → IsTurn s plan board place at out text ended
      → IsUnderway record s {
        frame = record s.frame { progress = record s.frame.progress { out = out }; text = text };
        place = place;
        at = at;
        ended = ended;
      }
  turned u is_plan is_board turn =
      let here : IsTurn s (stage_in s).section.plan (stage_in s).board place at out text ended =
      subst (λ w. IsTurn s (stage_in s).section.plan w place at out text ended) is_board
      (subst (λ p. IsTurn s p board place at out text ended) is_plan turn) in
      record {
        sections = u.sections;
        from = u.from;
        after = record { accepted = u.after.accepted; made = u.after.made; stage_is = u.after.stage_is; written = u.after.written };
        room = u.room;
        stands = here.stands;
        others = u.others;
        before = u.before;
        waited = u.waited;
        said_before = u.said_before;
        said = here.said u.before u.waited u.said;
        through = by ended here.through;
      }
    where
      by : (o : Option RunEnd) → IfSome o (λ end. IsFirst home_of know_of (name_of (stage_in s).board) (length (stage_in s).section.plan.segments.items) place
          × ((first : KeptText) (waited : List ℕ)
          → HasSaid taken_of faults_of (stage_in s).section.plan first waited s.frame.text s.frame.progress.out s.at
          → RunsBetween taken_of faults_of (stage_in s).section.plan (plan_lines (stage_in s).section.plan) first waited text out end))
          → IfSome o (IsThrough (stage_in s) place u.before u.waited text out)
      by None t = tt
      by (Some end) t = record { first = t.0; run = t.1 u.before u.waited u.said }

-- the turns are over, and nobody else has the stage
pub is_run : (s : FrameSection) (stage : Stage) (end : RunEnd) → IsUnderway s → s.ended ≡ Some end → stage ≡ (stage_in s)
    → IsRun s.frame stage s.place s.left end
is_run s stage end u ends same =
    let through : IsThrough (stage_in s) s.place u.before u.waited s.frame.text s.frame.progress.out end =
    subst (λ o. IfSome o (IsThrough (stage_in s) s.place u.before u.waited s.frame.text s.frame.progress.out)) ends u.through in
    let run : IsRun s.frame (stage_in s) s.place s.left end = record {
      sections = u.sections;
      from = u.from;
      after = u.after;
      room = u.room;
      first = through.first;
      report = through.run.1;
      said = said_on u.before u.waited s.frame.text s.frame.progress.out (is_fault end) (state_at (tree_in s.frame) (table_in s.frame) u.from).lines
          (plan_lines (stage_in s).section.plan) u.said_before through.run.0;
    } in
    subst (λ x. IsRun s.frame x s.place s.left end) (sym same) run
