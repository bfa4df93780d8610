-- The questions of one record, as its frame, its fields and its entry answer them.
use Rattle.std.proofs.Common.{◌≡◌, ℕ, ◌+◌, ◌≤◌, true, false, ◌&&◌, leb, List, length, Some, None, refl, ap, ◌∙◌}
use Rattle.std.proofs.lemmas.Bool.{and_parts, leb-true}
use Rattle.fault.specs.Asking.{refusal}
use Rattle.fault.specs.declared.fault.Question.TheVariants.{FieldsInRange}
use Rattle.fault.proofs.Refusals.{refusal-more}
use Rattle.record.specs.Bytes.{field_at}
use Rattle.record.specs.Kinds.{kind_of}
use Rattle.record.specs.Frames.{whole, exact, frame_asks}
use Rattle.record.specs.Ranges.{fields_fit}
use Rattle.record.specs.Decoding.{entry_at}
use Rattle.record.specs.declared.kind.Kind.{Kind}
use Rattle.procedure.specs.Drawings.{Drawing}
use Rattle.procedure.specs.Reading.{entry_as, entry_here, ranged_as, ranged, entry_asks, record_asks}

pub here-is : (b : List ℕ) (at : ℕ) (k : Kind) → kind_of (field_at b (at + 2)) ≡ Some k → entry_here b at ≡ Some (entry_at k b at)
unfolding entry_here
here-is b at k h = ap (λ o. entry_as o b at) h

pub ranged-is : (b : List ℕ) (at : ℕ) (k : Kind) → kind_of (field_at b (at + 2)) ≡ Some k → ranged b at ≡ fields_fit k b at
unfolding ranged
ranged-is b at k h = ap (λ o. ranged_as o b at) h

pub whole_is : (b : List ℕ) (at : ℕ) → whole b at ≡ true → at + 2 + field_at b at ≤ length b
whole_is b at h =
    let p = and_parts (leb (at + 4) (length b)) (leb 2 (field_at b at) && leb (at + 2 + field_at b at) (length b)) h in
    leb-true (at + 2 + field_at b at) (length b) (and_parts (leb 2 (field_at b at)) (leb (at + 2 + field_at b at) (length b)) p.1).1

frame-passes : (b : List ℕ) (at place : ℕ) (k : Kind) → whole b at ≡ true → kind_of (field_at b (at + 2)) ≡ Some k → exact b at ≡ true → refusal (frame_asks b at place) ≡ None
frame-passes b at place k w h e = rw (w, e, h) refl

module _ (b : List ℕ) (at place : ℕ) (k : Kind) (w : whole b at ≡ true) (h : kind_of (field_at b (at + 2)) ≡ Some k) (e : exact b at ≡ true) (d : Drawing) where
  -- a field is out of range
  pub fields-stop : fields_fit k b at ≡ false → refusal (record_asks b at place d) ≡ Some (record { question = FieldsInRange; place = place })
  fields-stop n =
      refusal-more (frame_asks b at place) (entry_asks d place (ranged b at) (entry_here b at)) (frame-passes b at place k w h e)
      ∙ rw (ranged-is b at k h, n) refl

  -- the entry's own questions decide
  pub entry-decides : fields_fit k b at ≡ true → refusal (record_asks b at place d) ≡ refusal (entry_asks d place true (Some (entry_at k b at)))
  entry-decides y =
      refusal-more (frame_asks b at place) (entry_asks d place (ranged b at) (entry_here b at)) (frame-passes b at place k w h e)
      ∙ rw (ranged-is b at k h, here-is b at k h, y) refl
