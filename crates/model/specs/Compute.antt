-- To unfold `computed` is to unfold every definition of the specification, so that a closed call of any of them computes.
use Rattle.std.proofs.Math.Bool.{xor}
use Rattle.model.specs.Lists
use Rattle.model.specs.Bytes
use Rattle.model.specs.Contents
use Rattle.model.specs.Distance
use Rattle.model.specs.Network
use Rattle.model.specs.Grid
use Rattle.model.specs.Access
use Rattle.model.specs.Oracle
use Rattle.model.specs.Query
use Rattle.model.specs.Rules
use Rattle.model.specs.Calls
use Rattle.model.specs.Listing

unfoldable pub lists_computed : Unit {0}
unfolding Lists.range Lists.any Lists.all Lists.filter Lists.concat_map Lists.concat Lists.member Lists.index_of Lists.equal Lists.rising Lists.least_of
    Lists.greatest_of Lists.least Lists.greatest Lists.gapless
lists_computed = tt

unfoldable pub bytes_computed : Unit {0}
unfolding Bytes.word16 Bytes.word32 Bytes.bytes16 Bytes.bytes32 Bytes.cut Bytes.words16 Bytes.splice
bytes_computed = tt

unfoldable pub contents_computed : Unit {0}
unfolding Contents.entry_at Contents.entry Contents.body_part Contents.body Contents.contents_broken Contents.of_its_kind Contents.bodies_broken Contents.entries
    Contents.file
contents_computed = tt

unfoldable pub distance_computed : Unit {0}
unfolding Distance.sooner Distance.soonest Distance.plus Distance.agree Distance.later Distance.start Distance.relax Distance.round Distance.rounds
    Distance.dist
distance_computed = tt

unfoldable pub network_computed : Unit {0}
unfolding Network.coordinate Network.node Network.edge Network.node_count Network.edge_count Network.nodes Network.edges Network.network
    Network.order Network.timed_of Network.timed_arcs Network.arcs_of Network.arcs Network.distance Network.nodes_broken Network.node_broken
    Network.coordinates_broken
    Network.edges_broken Network.edge_broken Network.some_edge_broken Network.numbers_broken Network.closed_listed
network_computed = tt

unfoldable pub grid_computed : Unit {0}
unfolding Grid.grid_over Grid.cell_index Grid.cell_of Grid.cells Grid.cell_at Grid.gap Grid.within Grid.kind_of Grid.grid_broken Grid.division_bytes Grid.division
grid_computed = tt

unfoldable pub access_computed : Unit {0}
unfolding Access.crossing_end Access.crosses Access.crossings Access.between Access.access_nodes Access.access_lists Access.transit_nodes
access_computed = tt

unfoldable pub oracle_computed : Unit {0}
unfolding Oracle.coded Oracle.value_bytes Oracle.decoded Oracle.value_key Oracle.value Oracle.key_broken Oracle.value_broken Oracle.entry_bytes
    Oracle.list_bytes Oracle.starts Oracle.access_bytes
    Oracle.table_bytes Oracle.transit_of Oracle.oracle_over Oracle.oracle Oracle.transit_count Oracle.list_start Oracle.list_count Oracle.list_part
    Oracle.access_at Oracle.access_entry
    Oracle.access_list Oracle.table_entry Oracle.grid_body_broken Oracle.entry_broken Oracle.indexes Oracle.list_broken Oracle.access_broken Oracle.cell_broken
    Oracle.table_broken
oracle_computed = tt

unfoldable pub query_computed : Unit {0}
unfolding Query.answer Query.meaning Query.rule_of Query.distance_in Query.distance_of Query.sum_by Query.far_distance Query.far_answer Query.local_answer
    Query.kind_between Query.answer_of Query.time_answer Query.time_word Query.seconds_word Query.hops_word Query.nexts Query.onward
    Query.way_after Query.way_from Query.way Query.list_span Query.list_of
query_computed = tt

unfoldable pub rules_computed : Unit {0}
unfolding Rules.first_broken Rules.no_such_node Rules.is_local Rules.local_pair Rules.words_needed Rules.work_too_small Rules.output_too_small Rules.differs_from_built
    Rules.network_rules Rules.accept_rules Rules.shape_rules Rules.accepted Rules.well_shaped Rules.build_rules Rules.audit_rules Rules.pair_rules Rules.time_rules
    Rules.far_rules Rules.way_rules Rules.list_rules
rules_computed = tt

unfoldable pub calls_computed : Unit {0}
unfolding Calls.clears Calls.cleared Calls.work_after Calls.output_after Calls.answer_after Calls.build_refusal Calls.built_after Calls.audit_refusal
    Calls.time_refusal Calls.time_result Calls.far_result Calls.list_refusal Calls.list_result Calls.way_refusal Calls.route_after
calls_computed = tt

unfoldable pub listing_computed : Unit {0}
unfolding Listing.digits Listing.decimal Listing.kind_text Listing.answer_text Listing.pair_line Listing.header Listing.pair_lines Listing.refused_line
    Listing.listing_after Listing.listing
listing_computed = tt

unfoldable pub computed : Unit {0}
unfolding xor lists_computed bytes_computed contents_computed distance_computed network_computed grid_computed access_computed oracle_computed query_computed
    rules_computed calls_computed listing_computed
computed = tt
