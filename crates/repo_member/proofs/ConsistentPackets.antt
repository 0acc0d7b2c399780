-- Packets that were published: what they say, and their contents.
use Rattle.std.proofs.Common.{◌≡◌, inl, inr, ℕ, ◌+◌, ◌-◌, ◌^◌, ◌<◌, List, [], length, get_or, Option, Some}
use Rattle.std.proofs.Common.{None, is_some, true, Result}
use Rattle.std.proofs.Common.{Ok, Err, refl, sym, ap, ◌∙◌, subst, arith}
use Rattle.std.specs.Prelude.{unwrap_or}
use Rattle.std.proofs.lemmas.Bool.{true≢false, cases_lt}
use Rattle.std.proofs.lemmas.List.{get_or_past}
use Rattle.std.proofs.lemmas.Option.{same_Some, slice_get-get_or, unwrap_or-slice_get}
use Rattle.ndn_name.specs.declared.fault.PacketFault.{PacketFault}
use Rattle.ndn_data.specs.Data.{Data, data_of}
use Rattle.repo_plan.specs.Parts.{Pair, index_packets}
use Rattle.repo_object.specs.Objects.{NamedContents, Post, IsObject, IsPost, Publisher, IsPublisher}
use Rattle.repo_object.specs.Objects.Post.{Offers}
use Rattle.repo_object.specs.Publication.{record_packet, published_record, packet_at}
use Rattle.repo_object.specs.Verdict.{content_within, stated_in}
use Rattle.repo_object.proofs.Publications.{record_stated, content_again}
use Rattle.group_model.specs.Publications.{Logs, no_post, post_at, last_of}
use Rattle.group_model.specs.Sound.{IsPublished}
use Rattle.repo_member.specs.Groups.{GroupKeys, publisher_at}
use Rattle.repo_object.specs.Packets.{content_octets, packet_content}
use Rattle.repo_member.specs.InGroup.{AreLogs}
use Rattle.repo_member.proofs.OwnLemmas.{is_publisher}

-- what is stored there, where something is
pub is_there : (o : Option (List ℕ)) → is_some o ≡ true → (octets : List ℕ) × (o ≡ Some octets)
is_there None h = absurd (true≢false (sym h))
is_there (Some octets) h = (octets, refl)

-- ---- the packets of a publication

-- part 0 is the record
pub record_says : (publisher : Publisher) (seq : ℕ) (post : Post) → IsPublisher publisher → IsPost seq post
    → seq < 2 ^ 16 → (octets : List ℕ) → packet_at publisher seq post 0 ≡ Some octets
    → stated_in octets ≡ Some (published_record publisher seq post)
record_says publisher seq post is_publisher is_post low octets h =
    ap stated_in (sym (same_Some (record_packet publisher seq (published_record publisher seq post)) octets h))
    ∙ record_stated publisher is_publisher seq post is_post low

read_content : (r : Result Data PacketFault) → content_octets r ≡ unwrap_or (content_within r) []
read_content (Ok d) = refl
read_content (Err fault) = refl

-- the part of a segment has its content
pub segment_content : (publisher : Publisher) (seq : ℕ) (object : NamedContents) (k : ℕ) (octets : List ℕ)
    → IsPublisher publisher → IsObject object
    → packet_at publisher seq (Offers object) (index_packets (length object.contents) + k + 1) ≡ Some octets
    → packet_content octets ≡ get_or object.contents k []
unfolding packet_content
segment_content publisher seq object k octets publishes_it is h =
    read_content (data_of octets)
    ∙ ap (λ (o : Option (List ℕ)). unwrap_or o []) (content_again publisher publishes_it object is seq k octets h)
    ∙ unwrap_or-slice_get object.contents k []

-- ---- what was published

module _ (g : GroupKeys) (logs : Logs) (are : AreLogs g logs) (pair : Pair) (there : IsPublished logs pair) where
  pub log_there : pair.0 < length logs
  log_there = elim (cases_lt pair.0 (length logs)) [
    | inl inside ↦ inside
    | inr past ↦
        let none : last_of logs pair.0 ≡ 0 =
        ap (λ (log : List Post). length log) (get_or_past logs pair.0 [] past) in
        absurd (omega (arith, none, there.from_one, there.to_last))
  ]

  pub published_post : IsPost pair.1 (post_at logs pair)
  published_post =
      let number : pair.1 - 1 + 1 ≡ pair.1 = omega (arith, there.from_one) in
      subst (λ (n : ℕ). IsPost n (post_at logs pair)) number
      (are.posts pair.0 [] log_there (pair.1 - 1) (post_at logs pair)
      (slice_get-get_or (get_or logs pair.0 []) (pair.1 - 1) no_post (omega (arith, there.from_one, there.to_last))))

  pub published_by : IsPublisher (publisher_at g pair.0)
  published_by = is_publisher g pair.0 are.group (omega (arith, log_there, are.width))

  pub published_low : pair.1 < 2 ^ 16
  published_low = omega (arith, there.to_last, are.few pair.0 [] log_there)
