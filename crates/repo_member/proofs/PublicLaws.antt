-- The laws and lemmas that crates above may cite. The changes that are missing here are the group's by computing.
pub use Rattle.repo_member.proofs.ChangeLemmas.{begins_alike, publishes_alike, accepts_alike, takes_alike}
pub use Rattle.repo_member.proofs.GroupPlans.{sound_stores_consistently, plans_alike, wants_alike}
pub use Rattle.repo_member.proofs.GroupCatalogues.{lists_alike}
pub use Rattle.repo_member.proofs.DeletionLemmas.{deletes_alike}
pub use Rattle.repo_member.proofs.LastingPackets.{begins_consistently, grows_consistently, publishes_consistently}
pub use Rattle.repo_member.proofs.LastingPackets.{accepts_consistently}
pub use Rattle.repo_member.proofs.LastingPackets.{takes_consistently, stays_consistent, logs_begin, logs_grow}
pub use Rattle.repo_member.proofs.ConsistentMembers.{consistent_is_member_state, consistent_is_of, consistent_stores}
pub use Rattle.repo_member.proofs.ConsistentMembers.{stores_those, logs_those}
pub use Rattle.repo_member.proofs.PassingPackets.{packets_are_there, packets_pass}
pub use Rattle.repo_member.proofs.ConsistentHolders.{member_is_holder, holder_stores_consistently, holder_stores_those}
pub use Rattle.repo_member.proofs.ConsistentHolders.{holders_want_published, holders_want_consistently}
pub use Rattle.repo_member.proofs.ConsistentHolders.{packets_pass_for_holders}
pub use Rattle.repo_member.proofs.HolderTakes.{fetched_are_stored, holders_take_consistently}
pub use Rattle.repo_member.proofs.ConsistentMembers.{wants_published, wants_are_consistent, packets_pass_for_members}
pub use Rattle.repo_member.proofs.ConsistentMembers.{accepts_the_claimed, takes_the_consistent}
pub use Rattle.repo_member.proofs.ConsistentChanges.{begins_consistent, publishes_consistent, others_publish}
pub use Rattle.repo_member.proofs.ConsistentChanges.{logs_have_grown}
pub use Rattle.repo_member.proofs.ConsistentChanges.{learns_consistent, hears_consistent, inserts_consistent}
pub use Rattle.repo_member.proofs.ConsistentChanges.{blocks_consistent, deletes_consistent}
pub use Rattle.repo_member.proofs.ConsistentChanges.{obeys_consistent, fires_consistent, resets_consistent}
pub use Rattle.repo_member.proofs.ConsistentChanges.{restarts_consistent, ends_claims_consistent}
pub use Rattle.repo_member.proofs.ConsistentChanges.{claims_consistent, loses_consistent, accepts_consistent}
pub use Rattle.repo_member.proofs.ConsistentChanges.{takes_consistent}
pub use Rattle.repo_member.proofs.ConsistentSyncs.{keys_are_found, syncs_are_received, syncs_are_taken}
pub use Rattle.repo_member.proofs.EventLemmas.{publish_is_event, withdraw_is_event, deliver_is_event, hear_is_event}
pub use Rattle.repo_member.proofs.EventLemmas.{fire_is_event}
pub use Rattle.repo_member.proofs.EventLemmas.{restart_is_event, claim_is_event, lose_is_event, answer_is_event}
pub use Rattle.repo_member.proofs.EventLemmas.{feed_is_event, fetch_is_event, learns_at_once, learns_what_all_know}
pub use Rattle.repo_member.proofs.EventLemmas.{gathering_is_event, settle_is_event, open_parts_alike, catalogues_alike}
pub use Rattle.repo_member.proofs.CommandEvents.{starts_alike, keeps_alike, order_is_event, order_is_answered}
pub use Rattle.repo_member.proofs.CommandEvents.{issue_is_event, issue_is_answered, block_is_event, block_states_alike}
pub use Rattle.repo_member.proofs.OrderLemmas.{made_orders_are_taken, orders_beyond}
pub use Rattle.repo_member.proofs.OutcomeLemmas.{members_take_all, holder_jobs_are_planned, holder_jobs_are_outcomes}
pub use Rattle.repo_member.proofs.OutcomeLemmas.{rising_jobs_are_planned, jobs_are_planned, planned_jobs_are_outcomes}
pub use Rattle.repo_member.proofs.OutcomeLemmas.{parts_came, apart_in_order}
pub use Rattle.repo_member.proofs.InsertionParts.{closed_within, block_within, object_within}
pub use Rattle.repo_member.proofs.CallLogs.{logs_go_on, publications_stay, withdrawals_stay, logged_packets_stay}
pub use Rattle.repo_member.proofs.CallVectors.{numbers_never_fall, known_is_the_join, long_join}
pub use Rattle.repo_member.proofs.CallReach.{in_every_member, claims_once}
pub use Rattle.repo_member.proofs.CallPackets.{held_packets_stay, hidden_for_good, hidden_is_gone, own_stored}
pub use Rattle.repo_member.proofs.PlainNames.{above_digests, object_name, plain_name}
pub use Rattle.repo_member.proofs.GroupLemmas.{client_is, client_plain, same_name, none_found, none_have_keys}
pub use Rattle.repo_member.proofs.OwnLemmas.{is_publisher}
pub use Rattle.repo_holdings.proofs.GainingLemmas.{contains-value}
