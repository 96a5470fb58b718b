-- Pieces that are given out are those of the plan.
use Rattle.std.proofs.Common.{◌≡◌, ℕ, ◌+◌, ◌-◌, ◌<◌, ◌≤◌, ◌∙◌, sym, ap, subst, get_or, ltb, ltb-true, lt-ltb, true, arith}
use Rattle.job_base.specs.declared.JobId.{JobId}
use Rattle.atomic_table.specs.declared.shared.Seat.{Seat}
use Rattle.frame_core.specs.declared.piece.Piece.{Piece}
use Rattle.frame_core.specs.declared.piece.Piece.TheVariants.{OfScript, OfJob}
use Rattle.frame_core.specs.declared.plan.JobPlan.{JobPlan}
use Rattle.frame_core.specs.declared.plan.Plan.{Plan}
use Rattle.frame_core.specs.Know.{is_of}
use Rattle.frame_core.specs.Laws.{IsNamed}
use Rattle.frame_core.specs.Names.{pieces_before, pieces_of, IsJobOf}
use Rattle.frame_core.specs.Ordered.{IsWellOrderedPlan}
use Rattle.frame_core.specs.Pieces.{piece_numbered}
use Rattle.frame_core.proofs.Planned.{pieces_are_named}
use Rattle.frame_core.proofs.Small.{some_is}
use Rattle.piece_claims.specs.declared.claims.Claimed.{Claimed}
use Rattle.piece_claims.specs.declared.claims.Claims.{Claims}
use Rattle.piece_claims.specs.declared.claims.Spent.TheVariants.{AllGiven}
use Rattle.piece_claims.specs.Claims.{HasPlaces, SawAll, IsOwn, IsSpent, PiecesAreGivenOnce, SeenPiecesAreGiven}
use Rattle.piece_claims.specs.declared.view.View.{View}
use Rattle.piece_claims.specs.Given.{IsGivenTo}
use Rattle.piece_claims.proofs.Opening.{is_one, number_is, there, first_is, low, high}

module _ (plan : Plan) (well : IsWellOrderedPlan plan) (id : JobId) (is : IsJobOf plan id) (x : JobPlan) (at : x ≡ get_or plan.jobs.items (id.0 - 1) x) (n : ℕ)
    (count : n ≡ pieces_of x) where
  abbrev j : ℕ
  j = id.0 - 1

  module _ (p i : ℕ) (here : p ≡ x.first.0 + i) (lt : i < n) where
    pub of_job : is_of plan id.0 p ≡ true
    of_job = is_one plan id.0 j p x (number_is plan well id is x at) (there plan well id is x at)
        (low plan well id is x at n p count (omega (arith, here))) (high plan well id is x at n p count (omega (arith, here, lt)))

  module _ (place many : ℕ) (some : 0 < many) (within : place + many ≤ n) where
    pub own : (claims : Claims) (claimed : Claimed) → claimed.job ≡ j → claimed.place ≡ place → claimed.count ≡ many → claimed.piece.0 ≡ x.first.0 + place
        → claimed.more ≡ ltb (place + many) n → HasPlaces claims j place many claimed.token → IsOwn plan claims claimed
    own claims claimed job here counted number more has = rw (job, here, counted) (record {
      some = some;
      there = λ k lt. (x, there plan well id is x at, omega (arith, lt, within, count));
      number = λ k lt. numbered k;
      token = has;
      more = (
        (λ t. (x, there plan well id is x at, (let less = ltb-true (place + many) n (sym more ∙ t) in omega (arith, less, count)))),
        (λ (y, got, less).
            let same : pieces_of x ≡ pieces_of y = ap pieces_of (some_is (sym (there plan well id is x at) ∙ got)) in
            more ∙ lt-ltb (place + many) n (omega (arith, count, same, less))),
      );
    })
      where
        numbered : (k : ℕ) → claimed.piece.0 + k ≡ pieces_before plan.jobs.items j + (place + k)
        numbered k = let first = first_is plan well id is x at in omega (arith, number, first)

  pub spent : (claims : Claims) (token : Seat ℕ View) → SawAll claims j n token → IsSpent plan claims id (AllGiven token)
  spent claims token saw = (
    n,
    saw,
    λ i (y, got, less).
        let same : pieces_of x ≡ pieces_of y = ap pieces_of (some_is (sym (there plan well id is x at) ∙ got)) in
        omega (arith, count, same, less),
  )

abbrev job_in : Piece → ℕ
job_in (OfScript k) = 0
job_in (OfJob j i) = j

abbrev place_in : Piece → ℕ
place_in (OfScript k) = 0
place_in (OfJob j i) = i

pub pieces_are_given_once : PiecesAreGivenOnce
pieces_are_given_once plan well jobs s H a b j i k l here there same p q =
    let named : IsNamed plan = pieces_are_named plan well in
    let piece : OfJob k l ≡ OfJob j i = sym (named.number (OfJob k l) there).1 ∙ (ap (piece_numbered plan) (sym same) ∙ (named.number (OfJob j i) here).1) in
    let one : IsGivenTo s.views b j i = subst (λ y. IsGivenTo s.views b (job_in y) (place_in y)) piece q in
    H.once a b j i p one

pub seen_pieces_are_given : SeenPiecesAreGiven
seen_pieces_are_given jobs s H a j n saw i lt = let most = H.seen a j n saw in H.all j i (omega (arith, lt, most))
