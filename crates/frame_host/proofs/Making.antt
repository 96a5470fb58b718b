-- A section as it is made.
use Rattle.std.proofs.Common.{◌≡◌, sym, ap, ◌∙◌, subst, ℕ, ℤ, List, length, All, None}
use Rattle.std.specs.Prelude.{Box, Vec}
use Rattle.std.specs.declared.alloc.Global.{Global}
use Rattle.frame_ast.specs.declared.script.Script.{Script}
use Rattle.frame_core.specs.declared.plan.Plan.{Plan}
use Rattle.frame_plan.specs.declared.section.Section.{Section}
use Rattle.frame_plan.specs.declared.sections.SectionBook.{SectionBook}
use Rattle.plan_state.specs.Steps.{state_at}
use Rattle.steal_pool.specs.declared.place.Place.{Place}
use Rattle.steal_pool.specs.declared.standing.Standing.{Standing}
use Rattle.steal_pool.specs.Seats.{IsReady}
use Rattle.steal_pool.specs.Turns.{HasSaid, IsStanding}
use Rattle.word_board.specs.declared.board.WordBoard.{WordBoard}
use Rattle.word_board.specs.declared.seat.WordSeat.{WordSeat}
use Rattle.word_board.specs.Boards.{home_of, know_of, name_of}
use Rattle.frame_stage.specs.declared.stage.Stage.{Stage}
use Rattle.frame_stage.specs.declared.hold.Hold.TheVariants.{Alone}
use Rattle.frame_stage.specs.Stages.{IsStage}
use Rattle.frame_top.specs.Running.{HasRun, IsMade}
use Rattle.frame_top.specs.declared.sections.Progress.{Progress}
use Rattle.frame_host.specs.declared.frame.Frame.{Frame}
use Rattle.frame_host.specs.declared.text.KeptText.{KeptText}
use Rattle.frame_host.specs.Frames.{IsBetween, IsUnderway, faults_of, table_in, taken_of, tree_in}
use Rattle.frame_host.proofs.Lines.{said_still}

-- what is planned of this script after so many sections
abbrev pub Makes : Frame → SectionBook → Progress → Section → Script → Type 0
Makes frame book q section script = (sections from : ℕ) → HasRun script (table_in frame) sections from frame.book frame.progress
    → IsMade script (table_in frame) sections from book section q.report

pub made_here : (frame : Frame) (book : SectionBook) (q : Progress) (section : Section) (script : Script) → (b : IsBetween frame) → script ≡ tree_in frame
    → Makes frame book q section script → IsMade (tree_in frame) (table_in frame) b.sections b.from book section q.report
made_here frame book q section script b is makes = subst (λ s. Makes frame book q section s) is makes b.sections b.from b.ran

-- the script's place before its first turn
pub record IsSet (plan : Plan) (board : WordBoard) (text : KeptText) (out : List ℕ) (at : Standing) (place : Place WordSeat) : Type 0 where
  pub stands : IsStanding home_of know_of (name_of board) plan at place
  pub said : HasSaid taken_of faults_of plan text out text out at

module _ (frame : Frame) (book : SectionBook) (q : Progress) (section : Section) (plan : Plan) (board : WordBoard) (stage : Box Stage Global)
    (place : Place WordSeat) (others : Vec (Place WordSeat) Global) (at : Standing) (left : List ℤ) where
  pub underway : (b : IsBetween frame) → IsMade (tree_in frame) (table_in frame) b.sections b.from book section q.report
      → q.out ≡ frame.progress.out → q.failed ≡ frame.progress.failed → stage.value.section ≡ section → IsStage stage.value
      → All (IsReady home_of know_of (name_of stage.value.board)) others.items → length left ≡ section.plan.words
      → plan ≡ stage.value.section.plan → board ≡ stage.value.board → IsSet plan board frame.text q.out at place
      → IsUnderway record {
        frame = record { tree = frame.tree; table = frame.table; book = book; progress = q; text = frame.text };
        stage = Alone stage;
        place = place;
        others = others;
        at = at;
        left = left;
        ended = None;
      }
  underway b made waits failed same is_stage ready room is_plan is_board set =
      let here : IsSet stage.value.section.plan stage.value.board frame.text q.out at place =
      subst (λ w. IsSet stage.value.section.plan w frame.text q.out at place) is_board (subst (λ p. IsSet p board frame.text q.out at place) is_plan set) in
      record {
        sections = b.sections;
        from = b.from;
        after = record {
          accepted = b.accepted;
          made = subst (λ s. IsMade (tree_in frame) (table_in frame) b.sections b.from book s q.report) (sym same) made;
          stage_is = is_stage;
          written = failed ∙ b.written;
        };
        room = room ∙ ap (λ (s : Section). s.plan.words) (sym same);
        stands = here.stands;
        others = ready;
        before = frame.text;
        waited = q.out;
        said_before = said_still frame.text frame.progress.out q.out (state_at (tree_in frame) (table_in frame) b.from).lines waits b.said;
        said = here.said;
        through = tt;
      }
