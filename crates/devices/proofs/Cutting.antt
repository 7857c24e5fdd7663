-- A mount, and a power cut with the mount after it.
use Rattle.std.proofs.Common.{◌≡◌, ℕ, ◌/◌, ◌%◌, ◌<◌, ◌≤◌, Bool, false, List, length, get_or, replicate, sym, refl, ap, ◌∙◌, subst, inl, inr, arith}
use Rattle.std.proofs.lemmas.List.{get_or_past, length-replicate}
use Rattle.std.proofs.lemmas.List.FromFn.{length-map-range_with_len, fill_by_all}
use Rattle.storage.specs.declared.life.Life.TheVariants.{Endless}
use Rattle.storage.specs.Sizes.{SizeRule}
use Rattle.storage.specs.Standing.{Standing, unmarked}
use Rattle.storage.specs.Meaning.{Fresh}
use Rattle.storage.specs.Cuts.{CutDone}
use Rattle.storage.proofs.Lists.{made_at}
use Rattle.storage.proofs.Marks.{get_or_none}
use Rattle.storage.proofs.Arriving.{settled}
use Rattle.devices.specs.Devices.{Held, Kind, InOrder, means_of, choice, picked, kept, fresh}
use Rattle.devices.specs.Rules.{Rules}
use Rattle.devices.specs.Mounts.{Mountable}
use Rattle.devices.specs.Sector.{no_marks}
use Rattle.devices.specs.declared.sector.Sectors.{Sectors}
use Rattle.devices.proofs.Doing.{same_held}

-- what is mounted alone may stand
pub mounts : (K : Kind) (s : List ℕ) → SizeRule (length s) → Fresh s (means_of K (fresh s))
mounts K s z = record {
  in_order = record { sized = z; visible_long = refl; torn_long = length-replicate (length s) false };
  visible = refl;
  only = λ t st. settled K.unit s s (replicate (length s) false) t refl (get_or_none (length s)) st;
  lives = refl;
}

-- what fits mounts, and a state that is that of a mount means what a mount leaves
pub mounted : (K : Kind) (d v : List ℕ) (t : List Bool) (h : Held) → Mountable d v t → h ≡ fresh d → Mountable d v t × (h ≡ fresh d) × Fresh d (means_of K h)
mounted K d v t h m q = (m, q, subst (λ (x : Held). Fresh d (means_of K x)) (sym q) (mounts K d m.sized))

-- a sector device keeps no marks, so a mount asks only for the size and as many visible bytes
pub sectors_mountable : (m : Sectors) (d v : List ℕ) → SizeRule (length d) → length v ≡ length d → Mountable d v (no_marks m (length d))
sectors_mountable m d v z l = record { sized = z; visible = l; torn = length-replicate (length d) false }

module _ (K : Kind) (rules : Rules K) (h : Held) (i : InOrder h) (cs : List ℕ) where
  pub length_kept : length (kept K h cs) ≡ length h.durable
  unfolding kept
  length_kept = length-map-range_with_len (picked K h cs) 0 (length h.durable)

  -- past the end there is only 0 to pick from
  pick_past : (k : ℕ) → length h.durable ≤ k → picked K h cs k ≡ 0
  pick_past k l =
      let d = get_or_past h.durable k 0 l in
      let v = get_or_past h.visible k 0 (omega (arith, i.visible_long)) in
      let t = get_or_past h.torn k false (omega (arith, i.torn_long)) in
      elim (rules.pick_one (choice K.unit cs k)) [ inl f ↦ f _ _ _ ∙ v | inr f ↦ ap (λ (x : Bool). K.pick (choice K.unit cs k) (get_or h.durable k 0) (get_or h.visible k 0) x) t ∙ f _ _ ∙ d ]

  kept_at : (k : ℕ) → get_or (kept K h cs) k 0 ≡ picked K h cs k
  unfolding kept
  kept_at k = made_at (picked K h cs) 0 (length h.durable) k (pick_past k)

  -- one choice decides a unit, so the content that a cut leaves might have stood
  pub kept_stands : Standing K.unit h.durable h.visible h.torn (kept K h cs)
  kept_stands = record {
    long = length_kept;
    cells = λ j. let c = get_or cs (j % length cs) 0 in
        let same-choice : (k : ℕ) → k / K.unit ≡ j → choice K.unit cs k ≡ c = λ k kj. ap (λ (x : ℕ). get_or cs (x % length cs) 0) kj in
        elim (rules.pick_one c) [
          | inl f ↦ inl (λ k kj. kept_at k ∙ ap (λ (x : ℕ). K.pick x (get_or h.durable k 0) (get_or h.visible k 0) (get_or h.torn k false)) (same-choice k kj) ∙ f _ _ _)
          | inr f ↦ inr (λ k kj clean. kept_at k ∙ ap (λ (x : ℕ). K.pick x (get_or h.durable k 0) (get_or h.visible k 0) (get_or h.torn k false)) (same-choice k kj)
              ∙ ap (λ (x : Bool). K.pick c (get_or h.durable k 0) (get_or h.visible k 0) x) clean ∙ f _ _)
        ];
  }

  pub cut_done : CutDone (kept K h cs) (means_of K h) (means_of K (fresh (kept K h cs)))
  cut_done = record {
    might = kept_stands;
    fresh = mounts K (kept K h cs) (subst (λ (n : ℕ). SizeRule n) (sym length_kept) i.sized);
    size = length_kept;
  }

  -- a list that has each picked byte is the content that the cut leaves
  pub kept_from : (xs : List ℕ) → length xs ≡ length h.durable → ((k : ℕ) → k < length h.durable → get_or xs k 0 ≡ picked K h cs k) → xs ≡ kept K h cs
  unfolding kept
  kept_from xs l f = fill_by_all (picked K h cs) xs (length h.durable) 0 l f

  -- a device that holds the content three times over, alive, is one that the cut mounted
  pub cut_from : (d v : List ℕ) (t : List Bool) → d ≡ kept K h cs → v ≡ kept K h cs → t ≡ unmarked h.torn →
      let h' : Held = record { durable = d; visible = v; torn = t; life = Endless; gone = false } in
      (h' ≡ fresh (kept K h cs)) × InOrder h' × CutDone (kept K h cs) (means_of K h) (means_of K h')
  cut_from d v t dk vk tk =
      let long : length h.torn ≡ length (kept K h cs) = i.torn_long ∙ sym length_kept in
      let h' : Held = record { durable = d; visible = v; torn = t; life = Endless; gone = false } in
      let q : h' ≡ fresh (kept K h cs) = same_held dk vk (tk ∙ ap (λ (n : ℕ). replicate n false) long) refl refl in (
        q,
        subst (λ (x : Held). InOrder x) (sym q) cut_done.fresh.in_order,
        subst (λ (x : Held). CutDone (kept K h cs) (means_of K h) (means_of K x)) (sym q) cut_done,
      )
