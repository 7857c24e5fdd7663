-- The bounds of a head, and the positions behind its last element.
use Rattle.std.proofs.Common.{◌≡◌, ℕ, ◌+◌, ◌<◌, ◌≤◌, inl, inr, arith}
use Rattle.ring.specs.declared.head.Head.{Head}
use Rattle.ring.specs.Headers.{SoundHeader}
use Rattle.ring.specs.Ring.{place}
use Rattle.ring.specs.Steps.{start, end_position, end_place}
use Rattle.ring.proofs.Places.{place_cases, place_in}
use Rattle.ring.proofs.Soundness.{sound_means, sound_least, sound_most}
use Rattle.ring.proofs.Keeping.{start_cases}

pub head_sound : (h : Head) → SoundHeader 16 h.size h.header.ring h.header.count h.header.first h.header.last
head_sound h = sound_means 16 h.size h.header.ring h.header.count h.header.first h.header.last h.sound

pub head_least : (h : Head) → 4096 ≤ h.header.ring
head_least h = sound_least 16 h.size h.header.ring h.header.count h.header.first h.header.last h.sound

pub head_most : (h : Head) → h.header.ring ≤ 16777216
head_most h = sound_most 16 h.size h.header.ring h.header.count h.header.first h.header.last h.sound

pub head_start : (h : Head) → (16 ≤ start 16 h.header) × (start 16 h.header < h.header.ring)
head_start h = elim (start_cases 16 h.header) [
  | inl x ↦ (omega (arith, x.1), omega (arith, x.1, head_least h))
  | inr x ↦ let s = (head_sound h).from x.0 in (omega (arith, x.1), omega (arith, x.1))
]

-- n bytes that have room behind the last element are at most once round the ring
pub end_in : (h : Head) (n : ℕ) → h.used + n ≤ h.header.ring → (16 ≤ end_position 16 h.header h.used) × (end_position 16 h.header h.used + n + 16 < h.header.ring + h.header.ring)
end_in h n room = let s = head_start h in (omega (arith, h.least), omega (arith, h.least))

-- the end lies in the ring
pub end_there : (h : Head) → (16 ≤ end_place 16 h.header h.used) × (end_place 16 h.header h.used < h.header.ring)
end_there h =
    let e = end_in h 0 (omega (arith, h.room)) in
    place_in 16 h.header.ring (end_position 16 h.header h.used) e.0 (omega (arith, e.1))

-- a place behind the end is that of the position
pub behind_end : (h : Head) (n : ℕ) → h.used + n ≤ h.header.ring → place 16 h.header.ring (end_place 16 h.header h.used + n) ≡ place 16 h.header.ring (end_position 16 h.header h.used + n)
behind_end h n room =
    let g = h.header.ring in
    let e = end_position 16 h.header h.used in
    omega (arith, end_in h n room, place_cases 16 g e, place_cases 16 g (e + n), place_cases 16 g (place 16 g e + n))
