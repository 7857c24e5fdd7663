-- Each row is computed; only the record that fills a ring is not compared byte by byte.
use Rattle.std.proofs.Common.{◌≡◌, ℕ, ◌-◌, ◌<◌, ◌≤◌, List, [], ◌∷◌, ◌++◌, get_or, replicate, refl, ap, ◌∙◌, arith}
use Rattle.std.proofs.lemmas.List.{get_or-append_right, get_or-replicate}
use Rattle.ring.specs.Bytes.{at, number, four, stretch}
use Rattle.ring.specs.Ring.{place, along}
use Rattle.ring.specs.Headers.{header_of, cell, doubled, sound}
use Rattle.ring.specs.Reading.{Records, walk, reading, reading_of}
use Rattle.ring.proofs.Stretches.{stretch_constant}
use Rattle.ring.proofs.Places.{place_cases}
use Rattle.worked.specs.Rings.{card, Right, full}
use Rattle.worked.proofs.worked_rings.Goals as goal

-- behind its length field the card has zeros
Blank : (q : ℕ) → 20 ≤ q → q < 4096 → along 16 4096 (card full) q ≡ 0
unfolding along at
Blank q l m =
    let here : place 16 4096 q ≡ q = omega (arith, place_cases 16 4096 q) in
    ap (λ (k : ℕ). get_or (card full) k 0) here
    ∙ get_or-append_right full.bytes (full.behind ++ replicate 8172 0) 16 q 0 refl (omega arith)
    ∙ get_or-append_right full.behind (replicate 8172 0) 4 (q - 16) 0 refl (omega arith)
    ∙ get_or-replicate 8172 (q - 16 - 4) 0 0 (omega arith)

-- the record, not yet compared
one_record : reading_of (card full) ≡ Records (stretch (along 16 4096 (card full)) 20 4076 ∷ [])
unfolding at number place along header_of doubled sound walk reading
one_record = refl

full_right : Right full
unfolding four cell
full_right = record {
  header = refl;
  reads = one_record ∙ ap (λ (r : List ℕ). Records (r ∷ [])) (stretch_constant (along 16 4096 (card full)) 20 4076 0 (λ q l m. Blank q l (omega arith)));
}

pub returns : goal.returns
unfolding at number four stretch place along header_of cell doubled sound walk reading
returns c = (
  record { header = refl; reads = refl },
  (
    record { header = refl; reads = refl },
    (
      record { header = refl; reads = refl },
      (
        record { header = refl; reads = refl },
        (
          full_right,
          (
            record { header = refl; reads = refl },
            (
              record { header = refl; reads = refl },
              (
                record { header = refl; reads = refl },
                (
                  record { header = refl; reads = refl },
                  (record { header = refl; reads = refl }, (record { header = refl; reads = refl }, tt)),
                ),
              ),
            ),
          ),
        ),
      ),
    ),
  ),
)
