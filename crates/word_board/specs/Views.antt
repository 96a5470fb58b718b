-- What a view says, and what each step makes of it.
use Rattle.std.specs.Prelude.{ℕ, zero, suc, ◌+◌, Bool, true, false, nat_eq, nat_lt, if◌then◌else◌, List, [], ◌∷◌, ◌++◌, length, ℤ, Option, None, Some}
use Rattle.job_base.specs.declared.JobId.{JobId}
use Rattle.job_base.specs.Cells.{with_cell}
use Rattle.merge_laws.specs.Graph.{Cells}
use Rattle.merge_laws.specs.Core.{Lease}
use Rattle.merge_laws.specs.Numbers.{has, numbers_of, without_number}
use Rattle.merge_laws.specs.Claims.{Claims, by_segment, by_job}
use Rattle.merge_laws.specs.Claims as laws
use Rattle.frame_core.specs.declared.piece.Piece.{Piece}
use Rattle.frame_core.specs.declared.piece.Piece.TheVariants.{OfScript, OfJob}
use Rattle.frame_core.specs.declared.plan.Plan.{Plan}
use Rattle.frame_core.specs.Names.{has_job, deps_in, starts_in, job_at, segment_at}
use Rattle.frame_core.specs.Graphs.{before_number}
use Rattle.frame_core.specs.Events.{place_numbered}
use Rattle.frame_core.specs.Know.{Know, no_cells, piece_count, is_of}
use Rattle.word_board.specs.declared.view.Duty.{Duty}
use Rattle.word_board.specs.declared.view.Held.{Held}
use Rattle.word_board.specs.declared.view.Kind.{Kind}
use Rattle.word_board.specs.declared.view.Kind.TheVariants.{Made, Store, Begin, End, Count, Release, Open, Finished}
use Rattle.word_board.specs.declared.view.Predecessor.{Predecessor}
use Rattle.word_board.specs.declared.view.Predecessor.TheVariants.{Segment, Job}
use Rattle.word_board.specs.declared.view.View.{View}

-- WHAT A SEAT KNOWS

-- the cells after stores, the last one first
abbrev pub stored_cells : List (ℕ × ℤ) → Cells → Cells
stored_cells [] cells = cells
stored_cells (s ∷ more) cells = with_cell (stored_cells more cells) s.0 s.1

-- the local cells of a lease: those before its piece in script order, with what was stored since
abbrev pub local_cells : Plan → Held → Cells
local_cells plan h = stored_cells h.stores (before_number plan h.piece)

abbrev pub leased_piece : Option Held → Option ℕ
leased_piece None = None
leased_piece (Some h) = Some h.piece

abbrev pub leased_cells : Plan → Option Held → Cells
leased_cells plan None = no_cells
leased_cells plan (Some h) = local_cells plan h

-- how many of the duties are on the job
abbrev pub dues_on : List Duty → ℕ → ℕ
dues_on [] j = 0
dues_on (d ∷ ds) j = if nat_eq d.job j then suc (dues_on ds j) else dues_on ds j

abbrev pub know : View → Know
know v = record {
  lease = leased_piece v.lease;
  cells = leased_cells v.plan v.lease;
  owed = v.owed;
  dues = λ j. dues_on v.duties j;
  rights = λ p. has p v.rights;
  seen = λ j. has j v.seen;
  first = v.first;
  ended = v.ended;
  opened = v.opened;
}

-- WHAT IT CLAIMS, as the laws say it: pieces by their places in script order, and jobs by theirs, from 0. What is no
-- piece or no job has no place, and is left out.

abbrev pub lease_in : Plan → Option Held → Option Lease
lease_in plan None = None
lease_in plan (Some h) = Some record { piece = place_numbered plan h.piece; local = local_cells plan h }

abbrev pub places : Plan → List ℕ → List ℕ
places plan [] = []
places plan (p ∷ ps) = if nat_lt p (piece_count plan) then place_numbered plan p ∷ places plan ps else places plan ps

abbrev pub job_place : ℕ → Option ℕ
job_place zero = None
job_place (suc j) = Some j

abbrev pub owed_place : Option ℕ → Option ℕ
owed_place None = None
owed_place (Some j) = job_place j

abbrev pub with_place : ℕ → List ℕ → List ℕ
with_place zero js = js
with_place (suc j) js = j ∷ js

abbrev pub job_places : List ℕ → List ℕ
job_places [] = []
job_places (j ∷ js) = with_place j (job_places js)

abbrev pub predecessor_in : Predecessor → laws.Predecessor
predecessor_in (Segment k) = by_segment k
predecessor_in (Job j) = by_job j

abbrev pub with_duty : Predecessor → ℕ → List laws.Duty → List laws.Duty
with_duty x zero ds = ds
with_duty x (suc j) ds = record { predecessor = predecessor_in x; job = j } ∷ ds

abbrev pub duties_in : List Duty → List laws.Duty
duties_in [] = []
duties_in (d ∷ ds) = with_duty d.predecessor d.job (duties_in ds)

abbrev pub claims : Plan → View → Claims
claims plan v = record {
  spent = false;
  number = if v.first then 0 else 1;
  owed = owed_place v.owed;
  duties = duties_in v.duties;
  rights = places plan v.rights;
  seen = job_places v.seen;
  ended = v.ended;
  opened = v.opened;
}

-- THE STEPS. Each sets the number of steps, the kind, the word and the finding; what it doesn't name stays.

abbrev pub new_view : Plan → Bool → View
new_view plan first = record {
  plan = plan;
  lease = None;
  owed = None;
  duties = [];
  rights = [];
  seen = [];
  first = first;
  ended = 0;
  opened = false;
  steps = 0;
  kind = Made;
  word = 0;
  found = 0;
}

abbrev pub opening_view : Plan → View
opening_view plan = new_view plan true

abbrev pub fresh_view : View → View
fresh_view v = new_view v.plan false

abbrev pub stepped : View → Kind → ℕ → ℕ → View
stepped v kind word found = record v { steps = v.steps + 1; kind = kind; word = word; found = found }

abbrev pub with_store : Option Held → ℕ → ℤ → Option Held
with_store None w x = None
with_store (Some h) w x = Some record { piece = h.piece; stores = (w, x) ∷ h.stores }

abbrev pub stored_view : View → ℕ → ℤ → ℕ → ℕ → View
stored_view v w x word found = record (stepped v Store word found) { lease = with_store v.lease w x }

abbrev pub lent : Bool → ℕ → Option Held → Option Held
lent true p old = Some record { piece = p; stores = [] }
lent false p old = old

-- the piece was begun where its word was found to be open
abbrev pub begun_view : View → ℕ → Bool → ℕ → ℕ → View
begun_view v p was_open word found = record (stepped v Begin word found) { lease = lent was_open p v.lease }

abbrev pub with_start : ℕ → Option JobId → List Duty → List Duty
with_start k None ds = ds
with_start k (Some id) ds = record { predecessor = Segment k; job = id.0 } ∷ ds

abbrev pub ended_view : View → Piece → ℕ → ℕ → View
ended_view v (OfJob j i) word found = record (stepped v End word found) { lease = None; owed = Some (suc j) }
ended_view v (OfScript k) word found = record (stepped v End word found) {
  lease = None;
  duties = with_start k (starts_in (segment_at v.plan k)) v.duties;
  ended = v.ended + 1;
  opened = false;
}

-- before the duties, one on each of the first n jobs that depends on the job j
abbrev pub with_followers : Plan → ℕ → ℕ → List Duty → List Duty
with_followers plan j zero ds = ds
with_followers plan j (suc n) ds = if has_job (deps_in (job_at plan n)) j
    then record { predecessor = Job j; job = suc n } ∷ with_followers plan j n ds else with_followers plan j n ds

abbrev pub counted_view : View → ℕ → Bool → ℕ → ℕ → View
counted_view v j was_last word found = record (stepped v Count word found) {
  owed = None;
  duties = if was_last then with_followers v.plan j (length v.plan.jobs.items) v.duties else v.duties;
}

-- the duties without the first on the job
abbrev pub without_duty : ℕ → List Duty → List Duty
without_duty j [] = []
without_duty j (d ∷ ds) = if nat_eq d.job j then ds else d ∷ without_duty j ds

abbrev pub released_view : View → ℕ → Bool → ℕ → ℕ → View
released_view v j was_last word found = record (stepped v Release word found) {
  duties = without_duty j v.duties;
  rights = if was_last then numbers_of (λ p. is_of v.plan j p) (piece_count v.plan) ++ v.rights else v.rights;
}

abbrev pub opened_view : View → ℕ → Piece → ℕ → ℕ → View
opened_view v p (OfJob j i) word found = record (stepped v Open word found) { rights = without_number p v.rights }
opened_view v p (OfScript k) word found = record (stepped v Open word found) { opened = true }

abbrev pub seen_view : View → ℕ → Bool → ℕ → ℕ → View
seen_view v j was_done word found =
    record (stepped v Finished word found) { seen = if was_done then j ∷ v.seen else v.seen }
