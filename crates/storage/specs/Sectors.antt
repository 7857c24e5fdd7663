-- The sectors that a range touches.
--   touched o n     how many sectors n bytes at o touch
--   Next s p t      the piece p is the next one of s, and t is what is left then: what of the range lies
--                   in the sector where s has come to
--   NextPiece s r t  the same, or r is none where the range is done
use Rattle.std.specs.Prelude.{◌≡◌, ℕ, zero, suc, ◌+◌, ◌-◌, ◌/◌, ◌%◌, ◌<◌, min, Some, None, Option}
use Rattle.storage.specs.declared.piece.Piece.{Piece}
use Rattle.storage.specs.declared.piece.Pieces.{Pieces}
use Rattle.storage.specs.Sizes.{sector_width}

abbrev pub touched : ℕ → ℕ → ℕ
touched o zero = 0
touched o (suc n) = (o + n) / sector_width + 1 - o / sector_width

pub record Next (s : Pieces) (p : Piece) (t : Pieces) : Type 0 where
  pub more : s.done < s.count
  pub from : p.from ≡ s.done
  pub to : p.to ≡ s.done + min (sector_width - (s.offset + s.done) % sector_width) (s.count - s.done)
  pub offset : t.offset ≡ s.offset
  pub count : t.count ≡ s.count
  pub done : t.done ≡ p.to

abbrev pub NextPiece : Pieces → Option Piece → Pieces → Type 0
NextPiece s None t = (t ≡ s) × (s.done ≡ s.count)
NextPiece s (Some p) t = Next s p t
