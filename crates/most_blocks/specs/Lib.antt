-- How bad a file can be: the most blocks of one cutting with the call that answers them, and the most nodes of a whole tree.
pub mod Most
pub mod Nodes
