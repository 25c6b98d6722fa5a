-- From what the two copies leave to what gathering leaves: a law for each way out of `gather`.
-- Assumes nothing.
use Prim.Native.Nat.{ℕ, ◌+◌, ◌-◌, ◌≤◌, ◌<◌}
use mathlib.Core.Path.{◌≡◌, refl, sym, ap, ◌∙◌}
use mathlib.Core.Bool.{cond}
use mathlib.Core.List.{List, ◌++◌, append_assoc}
use native.Mathlib.Omega.{arith}
use native.Mathlib.Decide.{dec_lt}
use lib.ListN.{length, take, drop, length-append, length-drop, take-append-drop}
use lib.Seq.{length-take-le}
use Rattle.std.specs.Prelude.{min}
use borrow.Author.Rules.{rules}
use lib.Dec.{ltb}
use mir.Syntax.{w64}
use mir.Val.{Fits}
use borrow.Author.Tests.{lt-ltb, le-ltb}
use Rattle.octets.specs.Put.{put, Placed}
use Rattle.octets.proofs.PutLaws.{put_out, put_length, put_put}
use Rattle.framing.specs.Framing.{frame, length_field, Frame.short, Frame.long, Frame.whole}
use Rattle.framing.proofs.Framing.{frame_few, frame_part, frame_over, frame_full, length_take_field, length_append_field, no_event_yet}
use Rattle.framing.proofs.Buffers.{take_put}
use Rattle.receiving.specs.Private.Gathering.{RoomToGather, Gathered}
use Rattle.receiving.proofs.CopyLaws.{Wanted, wanted, take_on}
use Rattle.receiving.proofs.NewLaws.{opens, behind_none}
use Rattle.receiving.specs.declared.gather.Head.TheVariants.{Short, Long, Whole}
use Rattle.receiving.specs.declared.gather.Got.{Got}

-- ---- the header, then the body
module _ (b : List ℕ) (c : ℕ) (p : List ℕ) (f : RoomToGather b c) where
  lg : length (take c b) ≡ c
  lg = length-take-le c b f.within

  all_length : length (take c b ++ p) ≡ c + length p
  all_length = length-append (take c b) p ∙ rw lg

  -- with six bytes or more gathered, the length field is within the limit, and more bytes are wanted
  part_there : 6 ≤ c → (length_field (take c b ++ p) ≤ 16384) × (c < 6 + length_field (take c b ++ p))
  part_there h =
      let x = no_event_yet 16384 (take c b) f.quiet (omega (arith, lg)) in
      let e : length_field (take c b ++ p) ≡ length_field (take c b) = length_append_field (take c b) p (omega (arith, lg)) in
      (omega (arith, x.0), omega (arith, x.1, lg))

  -- n bytes of p are copied behind the c
  module _ (n : ℕ) (ln : n ≤ length p) where
    cut : length (take n p) ≡ n
    cut = length-take-le n p ln

    field_of : 6 ≤ c + n → length_field (put b c (take n p)) ≡ length_field (take c b ++ p)
    field_of six =
        sym (length_take_field (c + n) (put b c (take n p)) six)
        ∙ ap length_field
        (ap (λ (k : ℕ). take (c + k) (put b c (take n p))) (sym cut) ∙ take_put b c (take n p) f.within)
        ∙ sym (length_append_field (take c b ++ take n p) (drop n p) (rw (length-append (take c b) (take n p), lg, cut) six))
        ∙ ap length_field (simp append_assoc (ap (λ (l : List ℕ). take c b ++ l) (take-append-drop n p)))

  first_wanted : Wanted c 6 (length p) (min (6 - c) (length p))
  first_wanted = wanted c 6 (length p) refl

  near : c + min (6 - c) (length p) < 16390
  near = by (dec_lt c 6)
    where
      by : Dec (c < 6) → c + min (6 - c) (length p) < 16390
      by (yes x) = omega (arith, first_wanted.upto (omega arith))
      by (no x) = omega (arith, first_wanted.none (omega arith), part_there (omega arith))

  module _ (h : ℕ) (eh : h ≡ min (6 - c) (length p)) where
    H : Wanted c 6 (length p) h
    H = wanted c 6 (length p) eh

    first_near : c + h < 16390
    first_near = omega (arith, near)

    pub lead_some : h ≤ length p
    lead_some = H.some

    pub lead_fits : Fits w64 (c + h)
    lead_fits = omega (arith, first_near)

    room₁ : c + length (take h p) ≤ length b
    room₁ = omega (arith, cut h H.some, first_near, f.room)

    module _ (r : ℕ) (b₁ : List ℕ) (P : Placed b c (take h p) r b₁) where
      first : b₁ ≡ put b c (take h p)
      first = put_out b c (take h p) P room₁

      pub few : c + h < 6 → Gathered b c p b₁ (record { used = h; head = Short })
      few l =
          let e : h ≡ length p = H.all l in
          let q : frame 16384 (take c b ++ p) ≡ short = frame_few 16384 (take c b ++ p) (omega (arith, all_length)) in
          record { used = rw q e; head = rw q; some = H.some; room = omega (arith, first_near, f.room); buffer = first }

      module _ (six : 6 ≤ c + h) (len : ℕ) (el : len ≡ length_field b₁) where
        same : len ≡ length_field (take c b ++ p)
        same = el ∙ (ap length_field first ∙ field_of h H.some six)

        six_all : 6 ≤ length (take c b ++ p)
        six_all = omega (arith, all_length, H.some)

        pub over : 16384 < len → Gathered b c p b₁ (record { used = h; head = Long })
        over l =
            let q : frame 16384 (take c b ++ p) ≡ long = frame_over 16384 (take c b ++ p) six_all (omega (arith, same)) in
            record { used = rw q (by (dec_lt c 6)); head = rw q; some = H.some; room = omega (arith, first_near, f.room); buffer = first }
          where
            by : Dec (c < 6) → h ≡ 6 - c
            by (yes x) = omega (arith, H.upto (omega arith))
            by (no x) = absurd (omega (arith, same, part_there (omega arith)))

        module _ (l : len ≤ 16384) where
          below : c < 6 + len
          below = by (dec_lt c 6)
            where
              by : Dec (c < 6) → c < 6 + len
              by (yes x) = omega arith
              by (no x) = omega (arith, same, part_there (omega arith))

          second_wanted : Wanted c (6 + len) (length p) (min (6 + len - c) (length p))
          second_wanted = wanted c (6 + len) (length p) refl

          near₂ : c + min (6 + len - c) (length p) ≤ 6 + len
          near₂ = second_wanted.upto (omega (arith, below))

          up : h ≤ min (6 + len - c) (length p)
          up = by (dec_lt (c + min (6 + len - c) (length p)) (6 + len))
            where
              by : Dec (c + min (6 + len - c) (length p) < 6 + len) → h ≤ min (6 + len - c) (length p)
              by (yes x) = omega (arith, second_wanted.all x, H.some)
              by (no x) = by' (dec_lt c 6)
                where
                  by' : Dec (c < 6) → h ≤ min (6 + len - c) (length p)
                  by' (yes y) = omega (arith, H.upto (omega arith))
                  by' (no y) = omega (arith, H.none (omega arith))

          kept : length b₁ ≡ length b
          kept = ap length first ∙ put_length b c (take h p) room₁

          module _ (m : ℕ) (em : m ≡ min (6 + len - c) (length p)) where
            W : Wanted c (6 + len) (length p) m
            W = wanted c (6 + len) (length p) em

            pub body_up : h ≤ m
            body_up = omega (arith, up)

            pub body_some : m ≤ length p
            body_some = W.some

            room : c + m ≤ length b
            room = omega (arith, near₂, f.room)

            pub body_fits : Fits w64 (c + m)
            body_fits = omega (arith, near₂)

            pub body_room : c + h + length (take (m - h) (drop h p)) ≤ length b₁
            body_room =
                let n : length (take (m - h) (drop h p)) ≡ m - h = length-take-le (m - h) (drop h p) (simp length-drop (omega (arith, W.some))) in
                omega (arith, n, body_up, room, kept)

            module _ (b₂ : List ℕ) (G : b₂ ≡ put b₁ (c + h) (take (m - h) (drop h p))) where
              second : b₂ ≡ put b c (take m p)
              second =
                  G
                  ∙ (rw (first, ap (λ (k : ℕ). c + k) (sym (cut h H.some))) (put_put b c (take h p) (take (m - h) (drop h p)) room₁)
                  ∙ ap (put b c) (take_on h m p body_up))

              part : c + m < 6 + len → Gathered b c p b₂ (record { used = m; head = Short })
              part k =
                  let e : m ≡ length p = W.all k in
                  let q : frame 16384 (take c b ++ p) ≡ short =
                  frame_part 16384 (take c b ++ p) six_all (omega (arith, same)) (omega (arith, same, all_length)) in
                  record { used = rw q e; head = rw q; some = W.some; room = room; buffer = second }

              full : 6 + len ≤ c + m → Gathered b c p b₂ (record { used = m; head = Whole })
              full k =
                  let q : frame 16384 (take c b ++ p) ≡ whole (6 + length_field (take c b ++ p)) =
                  frame_full 16384 (take c b ++ p) six_all (omega (arith, same)) (omega (arith, same, all_length, W.some)) in
                  record { used = rw q (omega (arith, same, near₂, em)); head = rw q; some = W.some; room = room; buffer = second }

              pub body : (w : Got) → w ≡ record { used = m; head = cond (ltb (c + m) (6 + len)) Short Whole } → Gathered b c p b₂ w
              body w e = rw e (by (dec_lt (c + m) (6 + len)))
                where
                  by : Dec (c + m < 6 + len) → Gathered b c p b₂ (record { used = m; head = cond (ltb (c + m) (6 + len)) Short Whole })
                  by (yes k) = rw (lt-ltb (c + m) (6 + len) k) (part k)
                  by (no k) = let l : 6 + len ≤ c + m = omega arith in rw (le-ltb (c + m) (6 + len) l) (full l)

pub ruleset gather_laws = (rules, opens, behind_none, lead_some, lead_fits, few, over, body_up, body_some, body_fits, body_room, body)
