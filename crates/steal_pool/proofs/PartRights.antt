-- What the lease of a piece of a job allows, and which piece its number names.
use Rattle.std.proofs.Common.{◌≡◌, ℕ, Bool, true, IsTrue, sym, ap, ◌∙◌}
use Rattle.frame_core.specs.declared.piece.Piece.{Piece}
use Rattle.frame_core.specs.declared.piece.Piece.TheVariants.{OfJob}
use Rattle.frame_core.specs.declared.plan.Plan.{Plan}
use Rattle.frame_core.specs.Effects.{touches}
use Rattle.frame_core.specs.Know.{reads, writes}
use Rattle.frame_core.specs.Pieces.{IsPieceOf, number_of, piece_numbered}
use Rattle.frame_core.specs.Rights.{MayReadIn, MayWriteIn}
use Rattle.frame_core.specs.Touches.{reads_in, writes_in}
use Rattle.frame_core.proofs.Numbered.{numbered_number}

as_true : (b : Bool) → b ≡ true → IsTrue b
as_true b e = e

module _ (plan q : Plan) (same : plan ≡ q) (p j i : ℕ) (there : IsPieceOf plan (OfJob j i)) (at : p ≡ number_of plan (OfJob j i)) where
  pub here : piece_numbered plan p ≡ OfJob j i
  here = ap (piece_numbered plan) at ∙ numbered_number plan (OfJob j i) there

  pub may_read : (read : ℕ → Bool) → reads q p ≡ read → MayReadIn (touches plan (OfJob j i)) read
  may_read read is w t =
      let e : read w ≡ reads_in (touches plan (OfJob j i)) w =
      ap (λ (f : ℕ → Bool). f w) (sym is)
      ∙ (ap (λ (r : Plan). reads r p w) (sym same) ∙ ap (λ (x : Piece). reads_in (touches plan x) w) here) in
      as_true (read w) (e ∙ t)

  pub may_write : (write : ℕ → Bool) → writes q p ≡ write → MayWriteIn (touches plan (OfJob j i)) write
  may_write write is w t =
      let e : write w ≡ writes_in (touches plan (OfJob j i)) w =
      ap (λ (f : ℕ → Bool). f w) (sym is)
      ∙ (ap (λ (r : Plan). writes r p w) (sym same) ∙ ap (λ (x : Piece). writes_in (touches plan x) w) here) in
      as_true (write w) (e ∙ t)
