-- What is proved of document 01's definitions: what each reply means, and the demands.
pub mod AllCases  -- each number of the table up to 19 on an input that shows it, computed
pub mod AllRebates  -- costs below zero (request 4), computed
pub mod AllEmptyDesks  -- desks with no lots or no calls (request 5), computed
pub mod AllPanels  -- the ticket panel (request 6), computed
pub mod AllReserves  -- stock reserved by the desk (request 7), computed
pub mod AllChanges  -- changes in the day (request 8), computed
pub mod AllBytes  -- the bytes of the files, computed
pub mod AllOrders  -- the check where lots and calls are not alike, computed
pub mod AllAnswers  -- what each case of an answer states, on an input that shows it
pub mod Replies  -- what a reply means is read off its steps
pub mod Each  -- what holds of each number of a list
pub mod Numbers  -- little-endian numbers of a part of a file
pub mod Bits  -- set bits of a word, and the book's test for 5
pub mod Costs  -- costs by their version: the range, and the base
pub mod Rows  -- what reading an opening, and one row, says
pub mod Books  -- what reading a book says
pub mod Starts  -- where a book holds a row and a cost
pub mod LotCosts  -- the stretch of a lot's costs
pub mod PairCosts  -- the cost of one pair
pub mod AmountsFiles  -- what reading amounts says
pub mod Holding  -- the check's first half: each eligible pair once
pub mod Crossing  -- the check's second half: the quadruples
pub mod Quadruples  -- what the test of one quadruple says
pub mod Checks  -- what checking an order says
pub mod OrderFiles  -- the file of a list of pairs, read back
pub mod Flows  -- the flow that a run writes, and its sums
pub mod Verdicts  -- what a verdict says of GREEDY's last state
pub mod Runs  -- what running an order says, of every order that passes
pub mod Finds  -- what finding an order says
pub mod FindRuns  -- finding and running in one call is the run by the order found
pub mod IdleRuns  -- what finding and running with an idle call says
pub mod Panels  -- what the ticket panel's call says, and what request 6 promises
pub mod Causes  -- a reply is refused by the first of its causes that applies
pub mod Refused  -- what the refusals of a file mean, exactly
pub mod RefusedOrders  -- what the refusals of an order mean, exactly
pub mod RefusedRuns  -- what each refusal means, exactly
pub mod OwnLines  -- each is a line of the table, with a number of its own
pub mod PutNumbers  -- a 32-bit number put into a file
pub mod ChangedFields  -- the amounts of a file with a new amount in place
pub mod Changes  -- what a change of one amount says
pub mod RefusedChanges  -- what each refusal of a change means, exactly
pub mod Largest  -- a readable book of 4,231 bytes
pub mod Cuts  -- a file of which the first bytes are read
pub mod Bounds  -- units and cost fit 64 bits
pub mod Printing  -- what the printing program prints
pub mod SameAmounts  -- runs by two amounts files with the same amounts
pub mod Reserves  -- what request 7 promises beside the demands
pub mod Rebates  -- what request 4 promises beside the demands
pub mod EmptyBooks  -- reading a book with no lots or no calls, and its amounts
pub mod NothingPlaced  -- where no pair is eligible, every run has one outcome
pub mod Demands  -- the three demands, proved
pub mod EmptyDesks  -- what request 5 promises beside the demands
pub mod DayChanges  -- what request 8 promises beside the demands
pub mod Examples  -- the demands speak of something: F1 and F9
pub mod ReserveExamples  -- request 7 speaks of something
pub mod Stated  -- two answers that state the same are the same
