-- Copies of what a block has written, one after another.
use Rattle.std.proofs.Common.{arith, ◌≡◌, ◌≤◌, ◌<◌, ◌+◌, ◌-◌, ◌∙◌, ℕ, zero, suc, Bool, true, false, Option, Some, None, List, [], ◌∷◌, ◌++◌, refl, sym, ap, subst, length, length-append, get_or, take, drop, append_assoc}
use Rattle.std.specs.Option.{is_some}
use Rattle.std.proofs.lemmas.Option.{get_or_from_slice_get}
use Rattle.std.proofs.lemmas.List.{append-nil, drop_all, take_at, take_more, length-take, length-take-le, drop-append-le, get_or_append_left}
use Rattle.std.proofs.lemmas.List.Elements.{AllZip-push}
use Rattle.frame_ast.specs.declared.script.Order.{Order}
use Rattle.frame_ast.specs.declared.script.Order.TheVariants as order
use Rattle.frame_ast.specs.declared.script.Statement.{Statement}
use Rattle.frame_script.specs.declared.written.OpenBlock.{OpenBlock}
use Rattle.frame_script.specs.declared.written.OpenBlock.TheVariants as block
use Rattle.frame_script.specs.Files.{Repeated}
use Rattle.frame_script.specs.Copies.{IsCopyOf, IsCopy, AreCopies}
use Rattle.frame_script.specs.Writing.{Writing, put, put_in, put_unless, put_all, fits_in, PutsCopyAt, PutsCopies, PutsRepeated, ClosesIn, Closes}
use Rattle.frame_script.proofs.Writing.Put.{nothing_put}
use Rattle.frame_script.proofs.Writing.Counts.{put_both}

-- WHAT STAYS

-- statements that come first
pub record BeginsWith (xs ys : List Statement) : Type 0 where
  pub others : List Statement
  pub same : xs ≡ ys ++ others

put_by_room : (room : Bool) (w : Writing) (x : Statement) → BeginsWith (put_in room w x).statements w.statements
put_by_room true w x = record { others = x ∷ []; same = refl }
put_by_room false w x = record { others = []; same = sym (append-nil w.statements) }

put_by_over : (over : Option ℕ) (w : Writing) (x : Statement) → BeginsWith (put_unless over w x).statements w.statements
put_by_over None w x = put_by_room (fits_in (length w.statements) w.tests x.act) w x
put_by_over (Some line) w x = record { others = []; same = sym (append-nil w.statements) }

pub put_keeps : (w : Writing) (xs : List Statement) → BeginsWith (put_all w xs).statements w.statements
put_keeps w [] = record { others = []; same = sym (append-nil w.statements) }
put_keeps w (x ∷ xs) =
    let one = put_by_over w.over w x in
    let more = put_keeps (put w x) xs in
    record {
      others = one.others ++ more.others;
      same = more.same ∙ ap (λ ys. ys ++ more.others) one.same ∙ append_assoc w.statements one.others more.others;
    }

keeps : (w v : Writing) (xs : List Statement) → v ≡ put_all w xs → BeginsWith v.statements w.statements
keeps w v xs e = subst (λ u. BeginsWith u.statements w.statements) (sym e) (put_keeps w xs)

pub as_long : (w v : Writing) (xs : List Statement) → v ≡ put_all w xs → length w.statements ≤ length v.statements
as_long w v xs e =
    let k = keeps w v xs e in
    omega (arith, ap length k.same, length-append w.statements k.others)

pub as_before : (w v : Writing) (xs : List Statement) (at : ℕ) (d : Statement) → v ≡ put_all w xs → at < length w.statements
    → get_or v.statements at d ≡ get_or w.statements at d
as_before w v xs at d e within =
    let k = keeps w v xs e in
    ap (λ ys. get_or ys at d) k.same ∙ get_or_append_left w.statements k.others d at within

-- the block is still there
pub same_block : (w v : Writing) (xs : List Statement) (start end : ℕ) → v ≡ put_all w xs → end ≡ length w.statements
    → drop start (take end v.statements) ≡ drop start w.statements
same_block w v xs start end e end_is =
    let k = keeps w v xs e in
    ap (drop start) (ap (take end) k.same ∙ take_at w.statements k.others end (sym end_is))

-- ONE COPY

pub copied_none : (w : Writing) (start : ℕ) → PutsCopies (drop start (take start w.statements)) w w
copied_none w start =
    ([], subst (λ xs. AreCopies xs []) (sym (drop_all start (take start w.statements) (omega (arith, length-take start w.statements)))) tt, refl)

block_more : (xs : List Statement) (start at : ℕ) (d : Statement) → start ≤ at → at < length xs →
    drop start (take (at + 1) xs) ≡ drop start (take at xs) ++ get_or xs at d ∷ []
block_more xs start at d from within =
    ap (drop start) (take_more xs at d within)
    ∙ drop-append-le start (take at xs) (get_or xs at d ∷ []) (omega (arith, from, length-take-le at xs (omega (arith, within))))

pub copied_more : (w v u : Writing) (start at : ℕ) → start ≤ at → at < length w.statements → PutsCopies (drop start (take at w.statements)) w v
    → PutsCopyAt at v u → PutsCopies (drop start (take (at + 1) w.statements)) w u
copied_more w v u start at from within (copies, are, v_is) (x, y, here, copy, u_is) =
    let same : get_or w.statements at x ≡ x = sym (as_before w v copies at x v_is within) ∙ get_or_from_slice_get v.statements at x x here in (
      copies ++ y ∷ [],
      subst (λ xs. AreCopies xs (copies ++ y ∷ [])) (sym (block_more w.statements start at x from within))
          (AllZip-push IsCopy (drop start (take at w.statements)) copies (get_or w.statements at x) y are (subst (λ z. IsCopy z y) (sym same) copy)),
      u_is ∙ ap (λ z. put z y) v_is ∙ sym (put_both w copies (y ∷ [])),
    )

-- SO MANY COPIES

repeated_both : (m n k : ℕ) (Is : List Statement → Type 0) (xs ys : List Statement) → k ≡ m + n → Repeated m Is xs → Repeated n Is ys → Repeated k Is (xs ++ ys)
repeated_both zero n k Is xs ys e none h =
    subst (λ zs. Repeated k Is zs) (ap (λ zs. zs ++ ys) (sym none))
    (subst (λ j. Repeated j Is ys) (omega (arith, e)) h)
repeated_both (suc m) n zero Is xs ys e h h' = absurd (omega (arith, e))
repeated_both (suc m) n (suc k) Is xs ys e (one, rest, xs_are, is, others) h' =
    (one, rest ++ ys, ap (λ zs. zs ++ ys) xs_are ∙ append_assoc one rest ys, is, repeated_both m n k Is rest ys (omega (arith, e)) others h')

repeated_once : (Is : List Statement → Type 0) (xs : List Statement) → Is xs → Repeated (suc zero) Is xs
repeated_once Is xs is = (xs, [], sym (append-nil xs), is, refl)

-- each is a copy of itself
own_copy_of : (o : Order) → IsCopyOf o o
own_copy_of (order.Column name column life) = (column, refl, refl)
own_copy_of (order.Schedule job) =
    (job, record { auto = refl; handle = refl; kernel = refl; args = refl; cut = refl; defer = refl; waive = refl; after = refl }, refl)
own_copy_of (order.Combine name of) = (of, refl, refl)
own_copy_of (order.Dispose name after handle) = (after, refl, refl)
own_copy_of _ = refl

own_copies : (xs : List Statement) → AreCopies xs xs
own_copies [] = tt
own_copies (x ∷ xs) = ((refl, own_copy_of x.act), own_copies xs)

own_repeated : (n : ℕ) (block : List Statement) → (copies : List Statement) × Repeated n (AreCopies block) copies
own_repeated zero block = ([], refl)
own_repeated (suc n) block =
    let others = own_repeated n block in
    (block ++ others.0, (block, others.0, refl, own_copies block, others.1))

repeated_empty : (n : ℕ) → Repeated n (AreCopies []) []
repeated_empty zero = refl
repeated_empty (suc n) = ([], [], refl, tt, repeated_empty n)

pub nothing_repeated : (w : Writing) (n start : ℕ) → length w.statements ≤ start → PutsRepeated n (drop start w.statements) w w
nothing_repeated w n start past =
    subst (λ xs. PutsRepeated n xs w w) (sym (drop_all start w.statements past)) ([], repeated_empty n, refl)

pub once_more : (m n : ℕ) (block : List Statement) (w v u : Writing) → n ≡ m + 1 → PutsRepeated m block w v → PutsCopies block v u → PutsRepeated n block w u
once_more m n block w v u e (copies, are, v_is) (more, more_are, u_is) = (
  copies ++ more,
  repeated_both m (suc zero) n (AreCopies block) copies more (omega (arith, e)) are (repeated_once (AreCopies block) more more_are),
  u_is ∙ ap (λ z. put_all z more) v_is ∙ sym (put_both w copies more),
)

-- once there is no room, the copies that are left change nothing
pub left_over : (m n : ℕ) (block : List Statement) (w v : Writing) → m ≤ n → is_some v.over ≡ true → PutsRepeated m block w v → PutsRepeated n block w v
left_over m n block w v less over (copies, are, v_is) = with_line v.over refl over where
  with_line : (o : Option ℕ) → v.over ≡ o → is_some o ≡ true → PutsRepeated n block w v
  with_line None is some = absurd cc
  with_line (Some line) is some =
      let left = own_repeated (n - m) block in (
        copies ++ left.0,
        repeated_both m (n - m) n (AreCopies block) copies left.0 (omega (arith, less)) are left.1,
        sym (nothing_put v left.0 line is) ∙ ap (λ z. put_all z left.0) v_is ∙ sym (put_both w copies left.0),
      )

pub as_often : (m n : ℕ) (block : List Statement) (w v : Writing) → m ≡ n → PutsRepeated m block w v → PutsRepeated n block w v
as_often m n block w v e h = subst (λ k. PutsRepeated k block w v) e h

-- BLOCKS

put_unless_blocks : (over : Option ℕ) (w : Writing) (x : Statement) → (put_unless over w x).blocks ≡ w.blocks
put_unless_blocks (Some line) w x = refl
put_unless_blocks None w x = by_room (fits_in (length w.statements) w.tests x.act) where
  by_room : (room : Bool) → (put_in room w x).blocks ≡ w.blocks
  by_room true = refl
  by_room false = refl

-- a statement opens or closes no block
pub put_blocks : (w : Writing) (x : Statement) → (put w x).blocks ≡ w.blocks
put_blocks w x = put_unless_blocks w.over w x

put_all_blocks : (w : Writing) (xs : List Statement) → (put_all w xs).blocks ≡ w.blocks
put_all_blocks w [] = refl
put_all_blocks w (x ∷ xs) = put_all_blocks (put w x) xs ∙ put_blocks w x

closed_in : (blocks : List OpenBlock) (w v : Writing) → ClosesIn blocks w v → length blocks ≡ 1 + length v.blocks
closed_in [] w v closes = absurd closes
closed_in (block.Repeat start count ∷ blocks) w v (copies, repeated, v_is) =
    let left : v.blocks ≡ blocks = ap (λ u. u.blocks) v_is ∙ put_all_blocks (record w { blocks = blocks }) copies in
    omega (arith, ap length left)
closed_in (block.When at ∷ blocks) w v v_is = omega (arith, ap (λ u. length u.blocks) v_is)

-- the innermost block is closed
pub closed_one : (w v : Writing) → Closes w v → length w.blocks ≡ 1 + length v.blocks
closed_one w v closes = closed_in w.blocks w v closes
