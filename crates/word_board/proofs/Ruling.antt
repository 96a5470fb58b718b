-- What the rule says of leases, of openings and of the countdowns.
use Rattle.std.proofs.Common.{◌≡◌, ℕ, ◌<◌, Bool, cond, eqb-true, true, map, length, get_or, refl, sym, ap, subst, ◌∙◌, Some}
use Rattle.std.specs.Prelude.{slice_get}
use mathlib.Core.Option.{some}
use lib.ListN.{get_elem?}
use Rattle.atomic_table.specs.Table.{State}
use Rattle.merge_laws.specs.Claims.{Claims}
use Rattle.merge_laws.specs.Core.{Lease}
use Rattle.frame_core.specs.declared.plan.Plan.{Plan}
use Rattle.frame_core.specs.declared.piece.Piece.{Piece}
use Rattle.frame_core.specs.declared.piece.Piece.TheVariants.{OfScript, OfJob}
use Rattle.frame_core.specs.Pieces.{piece_numbered}
use Rattle.frame_core.specs.Graphs.{graph_of, jobs_of, piece_at, precedes_at, is_predecessor}
use Rattle.frame_core.specs.Laws.{IsNamed}
use Rattle.frame_core.specs.Know.{piece_count, MayOpen, MayOpenSegment}
use Rattle.frame_core.proofs.Small.{some_is}
use Rattle.frame_core.proofs.Planned.{pieces_are_named}
use Rattle.word_board.specs.declared.view.Held.{Held}
use Rattle.word_board.specs.declared.view.View.{View}
use Rattle.word_board.specs.Words.{state_word, states_in}
use Rattle.frame_core.specs.Events.{place_numbered}
use Rattle.word_board.specs.Views.{claims, know, local_cells}
use Rattle.word_board.specs.Rule.{is_leased, states_at, Holds}
use Rattle.word_board.proofs.Leases.{word_begun, word_closed}
use Rattle.word_board.specs.Laws.{LeasedWordsHoldTheirCells, LeasedPiecesAreBegun, PiecesAreLeasedOnce, OpenPiecesAreReady, PiecesToOpenAreClosed, RightsAreHeldOnce, CountdownsAreExact}
use Rattle.word_board.proofs.Cells.{lease_at}
use Rattle.word_board.proofs.Claiming.{right_there}
use Rattle.word_board.proofs.Showing.{claims_at, state_is}
use Rattle.frame_core.proofs.Standing.{reads_there, segment_there, stands}
use Rattle.frame_core.proofs.Boards.{segments_are}

abbrev lease_here : Plan → Held → Lease
lease_here plan h = record { piece = place_numbered plan h.piece; local = local_cells plan h }

pub leased_words_hold_their_cells : LeasedWordsHoldTheirCells
leased_words_hold_their_cells plan s H k h L w r =
    H.ruled.held.in_place k (lease_here plan h) w (lease_at plan s.views k L.view h L.there L.held)
    (reads_there plan (pieces_are_named plan H.well) h.piece L.below w ∙ r)

pub leased_pieces_are_begun : LeasedPiecesAreBegun
leased_pieces_are_begun plan s H k h L =
    sym (state_is plan s.words H.size (pieces_are_named plan H.well) h.piece L.below)
    ∙ word_begun (states_in plan s.words (place_numbered plan h.piece)) (is_leased plan s.views (place_numbered plan h.piece))
    (H.ruled.held.begun k (lease_here plan h) (lease_at plan s.views k L.view h L.there L.held)).0

pub pieces_are_leased_once : PiecesAreLeasedOnce
pieces_are_leased_once plan s H i k g h L M same =
    H.ruled.held.once i k (lease_here plan g) (lease_here plan h) (lease_at plan s.views i L.view g L.there L.held)
    (lease_at plan s.views k M.view h M.there M.held) (ap (place_numbered plan) same)

pub countdowns_are_exact : CountdownsAreExact
countdowns_are_exact plan s H = H.ruled.exact

-- OPENINGS

precedes_there : (plan : Plan) → IsNamed plan → (q p : ℕ) → q < piece_count plan → p < piece_count plan
    → (graph_of plan).precedes (place_numbered plan q) (place_numbered plan p) ≡ is_predecessor plan (piece_numbered plan q) (piece_numbered plan p)
unfolding graph_of
precedes_there plan named q p lq lp =
    ap (λ o. precedes_at plan o (piece_at plan (place_numbered plan p))) (stands plan named q lq)
    ∙ ap (precedes_at plan (Some (piece_numbered plan q))) (stands plan named p lp)

pub open_pieces_are_ready : OpenPiecesAreReady
open_pieces_are_ready plan s H q p lq lp up before =
    let named : IsNamed plan = pieces_are_named plan H.well in
    let ended = H.ruled.held.ready (place_numbered plan p) (λ closed. up (sym (state_is plan s.words H.size named p lp)
    ∙ word_closed (states_in plan s.words (place_numbered plan p)) (is_leased plan s.views (place_numbered plan p)) closed))
    (place_numbered plan q) (precedes_there plan named q p lq lp ∙ before) in
    eqb-true (states_at plan s (place_numbered plan q)) 3 ended

-- the first seat's claims are those of the one first participant
led_by : (plan : Plan) (s : State ℕ View) (H : Holds plan s) (k : ℕ) (v : View) → get_elem? s.views k ≡ some v → v.first ≡ true
    → (k ≡ H.ruled.exact.led.place) × (H.ruled.exact.led.first ≡ claims plan v)
led_by plan s H k v at first =
    let here = claims_at plan s.views k v v at in
    let same = H.ruled.exact.led.only k (claims plan v) here (ap (λ (b : Bool). cond b 0 1) first, refl) in
    (same, some_is (sym H.ruled.exact.led.there ∙ (ap (slice_get (map (claims plan) s.views)) (sym same) ∙ here)))

-- the next segment is closed, where it wasn't opened
next_is_closed : (plan : Plan) (s : State ℕ View) (H : Holds plan s) (k n : ℕ) (v : View) → get_elem? s.views k ≡ some v → MayOpenSegment plan (know v) n
    → states_at plan s ((jobs_of plan).segment_at n) ≡ 0
next_is_closed plan s H k n v at may =
    let led = H.ruled.exact.led in
    let is = (led_by plan s H k v at may.first).1 in
    let next : n ≡ led.first.ended = may.next ∙ sym (ap (λ (c : Claims). c.ended) is) in
    let below : led.first.ended < (jobs_of plan).segments = subst (λ m. led.first.ended < m) (sym (segments_are plan))
    (subst (λ m. m < length plan.segments.items) next may.below) in
    ap (λ m. states_at plan s ((jobs_of plan).segment_at m)) next ∙ led.next_closed below (ap (λ (c : Claims). c.opened) is ∙ may.unopened)

pub pieces_to_open_are_closed : PiecesToOpenAreClosed
pieces_to_open_are_closed plan s H k p v at low may = by (piece_numbered plan p) refl may
  where
    closed_word : states_at plan s (place_numbered plan p) ≡ 0 → get_or s.words (state_word plan p) 0 ≡ 0
    closed_word e = sym (state_is plan s.words H.size (pieces_are_named plan H.well) p low)
        ∙ word_closed (states_in plan s.words (place_numbered plan p)) (is_leased plan s.views (place_numbered plan p)) e

    by : (x : Piece) → piece_numbered plan p ≡ x → MayOpen plan (know v) p x → get_or s.words (state_word plan p) 0 ≡ 0
    by (OfJob j i) is right =
        closed_word (H.ruled.exact.rights_are k (place_numbered plan p) (claims plan v) (claims_at plan s.views k v v at)
        (right_there plan p v.rights low right)).0
    by (OfScript n) is next =
        closed_word (ap (states_at plan s) (segment_there plan (pieces_are_named plan H.well) p low n is) ∙ next_is_closed plan s H k n v at next)

pub rights_are_held_once : RightsAreHeldOnce
rights_are_held_once plan s H i k p u v at_u at_v low may_u may_v = by (piece_numbered plan p) may_u may_v
  where
    by : (x : Piece) → MayOpen plan (know u) p x → MayOpen plan (know v) p x → i ≡ k
    by (OfJob j n) one two = H.ruled.exact.rights_once i k (place_numbered plan p) (claims plan u) (claims plan v) (claims_at plan s.views i u u at_u)
        (claims_at plan s.views k v v at_v)
        (right_there plan p u.rights low one) (right_there plan p v.rights low two)
    by (OfScript n) one two = (led_by plan s H i u at_u one.first).0 ∙ sym (led_by plan s H k v at_v two.first).0
