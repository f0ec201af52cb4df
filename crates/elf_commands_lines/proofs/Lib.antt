mod BatchLists
