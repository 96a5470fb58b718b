-- How many statements stand behind each other.
use Rattle.std.proofs.Common.{ℕ, ◌≡◌, ◌≤◌, ◌<◌, ◌+◌, IsTrue, Option, Some, None, slice_get, refl, arith}
use Rattle.kernel_raw.specs.declared.raw.RawNode.{RawNode}
use Rattle.kernel_raw.specs.declared.raw.RawKernel.{RawKernel}
use Rattle.kernel_raw.specs.Raw.{RawBlock, Nothing, Simple, Nested, Branched, block_size, statement_count}
use Rattle.kernel_code.specs.Places.{IsBlockHere, rest_of, first_size, has_first}
use Rattle.kernel_code.proofs.Built.Blocks.{first-after, first-exists, rest-here, begun-first, size-split}

-- the statements up to a node are counted, and the rest of the block stands there
pub record IsCounted (raw : RawKernel) (owner : Option ℕ) (at end : ℕ) (b : RawBlock) (count : ℕ) : Type 0 where
  pub rest : RawBlock
  pub here : IsBlockHere raw owner at rest
  pub ends : end ≡ at + block_size rest
  pub all : count + statement_count rest ≡ statement_count b

pub counted_start : (raw : RawKernel) (owner : Option ℕ) (from end : ℕ) (b : RawBlock) → IsBlockHere raw owner from b → end ≡ from + block_size b
    → IsCounted raw owner from end b 0
counted_start raw owner from end b here e = record { rest = b; here = here; ends = e; all = omega arith }

none-left : (b : RawBlock) → block_size b ≡ 0 → statement_count b ≡ 0
none-left Nothing h = refl
none-left (Simple f a n parts more) h = absurd (omega arith)
none-left (Nested f a n parts inner more) h = absurd (omega arith)
none-left (Branched a e first second more) h = absurd (omega arith)

count-split : (b : RawBlock) → IsTrue (has_first b) → statement_count b ≡ 1 + statement_count (rest_of b)
count-split Nothing h = cc
count-split (Simple f a n parts more) h = refl
count-split (Nested f a n parts inner more) h = refl
count-split (Branched a e first second more) h = refl

pub counted_next : (raw : RawKernel) (owner : Option ℕ) (at end : ℕ) (b : RawBlock) (count : ℕ) (node : RawNode) → at < end
    → slice_get raw.nodes.items at ≡ Some node →
    IsCounted raw owner at end b count → IsCounted raw owner (at + (1 + node.after)) end b (count + 1)
counted_next raw owner at end b count node lt there p =
    let e = p.ends in
    let has = begun-first p.rest (omega arith) in
    let size : 1 + node.after ≡ first_size p.rest = first-after raw owner at node p.rest has there p.here.stands in
    let place : at + first_size p.rest ≡ at + (1 + node.after) = omega arith in
    record {
      rest = rest_of p.rest;
      here = rest-here raw owner at _ p.rest place p.here;
      ends = let z = size-split p.rest in omega arith;
      all = let one = count-split p.rest has in let all = p.all in omega arith;
    }

pub counted_end : (raw : RawKernel) (owner : Option ℕ) (at end : ℕ) (b : RawBlock) (count : ℕ) → end ≤ at → IsCounted raw owner at end b count
    → count ≡ statement_count b
counted_end raw owner at end b count past p =
    let e = p.ends in let none = none-left p.rest (omega arith) in let all = p.all in omega arith

pub counted_missing : (raw : RawKernel) (owner : Option ℕ) (at end : ℕ) (b : RawBlock) (count : ℕ) → at < end → slice_get raw.nodes.items at ≡ None
    → IsCounted raw owner at end b count → count ≡ statement_count b
counted_missing raw owner at end b count lt none p =
    let e = p.ends in absurd (first-exists raw owner at p.rest (begun-first p.rest (omega arith)) p.here.stands none)
