-- What is kept of a content whose end is cut off.
use Rattle.std.proofs.Common.{◌≡◌, ℕ, ◌+◌, ◌%◌, ◌<◌, sum, false, List, length, take, nat_le, inl, inr, ◌++◌, ◌∷◌, [], if◌then◌else◌, unwrap_or, length-append, ap, sym, ◌∙◌, arith}
use Rattle.std.proofs.lemmas.Bool.{cases_lt}
use Rattle.std.proofs.lemmas.Grind.{common_steps}
use Rattle.std.proofs.lemmas.List.{length-take, take_all, take-append-le}
use Rattle.gdb_packets.specs.Frame.{checksum}
use Rattle.gdb_packets.specs.Packet.{known_packet, packet_of}
use Rattle.gdb_packets.specs.declared.packet.Packet.TheVariants.{Unknown}
use Rattle.gdb_packets.specs.declared.packet.TheConstants.{CONTENT_LIMIT}

pub take-more : (room : ℕ) (front back : List ℕ) → take room (take room front ++ back) ≡ take room (front ++ back)
take-more room front back = grind (arith, common_steps)

-- one byte more, where there is room and where there is none
pub take-pushed : (room : ℕ) (front : List ℕ) (byte : ℕ) → length front < room → front ++ byte ∷ [] ≡ take room (front ++ byte ∷ [])
take-pushed room front byte less = sym (take_all room (front ++ byte ∷ []) (simp length-append (omega (arith, less))))

pub take-full : (room : ℕ) (front : List ℕ) (byte : ℕ) → length front ≡ room → front ≡ take room (front ++ byte ∷ [])
take-full room front byte full = sym (take-append-le room front (byte ∷ []) (omega (arith, full)) ∙ take_all room front (omega (arith, full)))

-- more than a packet may have
too_long : (content : List ℕ) → CONTENT_LIMIT < length content → packet_of content ≡ Unknown
too_long content long =
    let test : nat_le (length content) CONTENT_LIMIT ≡ false = grind (arith, common_steps, long) in
    ap (λ fits. if fits then unwrap_or (known_packet content) Unknown else Unknown) test

-- a packet by one byte more than it may have
pub packet_of-take : (content : List ℕ) → packet_of (take (CONTENT_LIMIT + 1) content) ≡ packet_of content
packet_of-take content =
    elim (cases_lt CONTENT_LIMIT (length content)) [
      | inl long ↦ too_long (take (CONTENT_LIMIT + 1) content) (rw length-take (omega (arith, long))) ∙ sym (too_long content long)
      | inr fits ↦ ap packet_of (take_all (CONTENT_LIMIT + 1) content (omega (arith, fits)))
    ]

-- the sum of one byte more
pub sum-more : (before : ℕ) (content : List ℕ) (byte : ℕ) → before ≡ checksum content → (before + byte) % 256 ≡ checksum (content ++ byte ∷ [])
sum-more before content byte is =
    let whole : sum (content ++ byte ∷ []) ≡ sum content + byte = grind (arith, common_steps) in
    rw (is, whole) (omega arith)
